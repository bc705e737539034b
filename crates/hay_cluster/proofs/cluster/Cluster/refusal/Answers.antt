use Rattle.std.proofs.Common.{◌≡◌, ℕ, ◌<◌, List, Option, Some, None, length, sym, ap, subst, ◌∙◌, arith, refl}
use Rattle.std.specs.Prelude.{IfSome, slice_index_or}
use Rattle.std.proofs.lemmas.Result.{IfErr-at_err, IfOk-at_ok}
use Rattle.hay_needle.specs.declared.settings.Settings.{Settings}
use Rattle.hay_legal.specs.Known.{closed, refusal_of, room_refusal_of, volume_at}
use Rattle.hay_legal.specs.Suiting.{Refuses}
use Rattle.hay_reply.specs.declared.Refused.{Refused}
use Rattle.hay_logical.specs.Answers.{IsRoomFault, room_answer}
use Rattle.hay_physical.specs.OpenCopies.{Copy}
use Rattle.hay_logical.specs.Fits.{At}
use Rattle.hay_logical.specs.ReplicaCalls.{RoomFor}
use Rattle.hay_logical.specs.Volumes.{Volume}
use Rattle.hay_logical.proofs.Lists.{at_read}
use Rattle.hay_cluster.specs.Lacks.{lack_of}
use Rattle.hay_cluster.specs.State.{Stands}
use Rattle.hay_cluster.specs.Store.{IsBuilt, Open}
use Rattle.hay_cluster.proofs.Moves.{volume_of, volume_stood}
use Rattle.hay_cluster.proofs.Calls.{called_open}
use Rattle.hay_cluster.proofs.Refusals.{refused_for, taken_for}
use Rattle.hay_cluster.proofs.Suiting.{lack_refuses, room_lack}
use Rattle.hay_cluster.specs.Seen.{store_seen}
use Rattle.hay_logical.specs.Seen.{RoomRefusedSeen, RoomSeen, volume_seen}
use Rattle.hay_cluster.proofs.Seeing.{lack_seen, seen_at}
use Rattle.hay_cluster.proofs.cluster.Cluster.refusal.Goals as goal

pub offset_bounds-as_slice-volume : goal.offset_bounds-as_slice-volume
offset_bounds-as_slice-volume g c =
    let within : c.args.volume < length c.self.inside.volumes.items =
    let same = ap (λ (st : Open g.row.D.Denot g.row.D-Piece.Denot g.row.A.Denot). (st.settings).volumes) c.self.view_is in omega (arith, c.requires.volume, c.self.invariant.many, same) in
    let long = ap length c.as_slice.ensures.value in
    omega (arith, within, long)

pub room-requires : goal.room-requires
room-requires g c =
    let store : Open g.row.D.Denot g.row.D-Piece.Denot g.row.A.Denot = record {
      settings = c.self.inside.settings;
      directory = c.self.inside.directory;
      volumes = c.self.inside.volumes.items;
      arms = c.self.inside.seats.items;
    } in
    let within : c.args.volume < length c.self.inside.volumes.items =
    let same = ap (λ (st : Open g.row.D.Denot g.row.D-Piece.Denot g.row.A.Denot). (st.settings).volumes) c.self.view_is in omega (arith, c.requires.volume, c.self.invariant.many, same) in
    let volume = c.index-as_slice-volume.result in
    let at : At store.volumes c.args.volume volume = subst (λ (w : Volume g.row.D.Denot g.row.D-Piece.Denot). At store.volumes c.args.volume w) (sym c.index-as_slice-volume.is)
    (subst (λ (vs : List (Volume g.row.D.Denot g.row.D-Piece.Denot)). At vs c.args.volume (slice_index_or c.as_slice.result.now c.args.volume volume)) c.as_slice.ensures.value
    (at_read c.as_slice.result.now c.args.volume volume (let long = ap length c.as_slice.ensures.value in omega (arith, within, long)))) in
    record { «open» = called_open c.args.self.now store c.args.volume volume c.self.view_is at c.requires.up }

pub returns-in-Ok : goal.returns-in-Ok
returns-in-Ok g c = record {
  known = λ tells k stands.
      let store : Open g.row.D.Denot g.row.D-Piece.Denot g.row.A.Denot = record {
        settings = c.self.inside.settings;
        directory = c.self.inside.directory;
        volumes = c.self.inside.volumes.items;
        arms = c.self.inside.seats.items;
      } in
      let here =
      subst (λ (st : Open g.row.D.Denot g.row.D-Piece.Denot g.row.A.Denot). Stands g.D.Disk.files g.D.Piece.Piece.Tells g.D.Disk.fault_count g.D.Disk.fuse_count
      g.A.Arm.fault_count st k) (sym c.self.view_is) stands in
      let within : c.args.volume < length c.self.inside.volumes.items =
      let same = ap (λ (st : Open g.row.D.Denot g.row.D-Piece.Denot g.row.A.Denot). (st.settings).volumes) c.self.view_is in omega (arith, c.requires.volume, c.self.invariant.many, same) in
      let volume = c.index-as_slice-volume.result in
      let at : At store.volumes c.args.volume volume = subst (λ (w : Volume g.row.D.Denot g.row.D-Piece.Denot). At store.volumes c.args.volume w) (sym c.index-as_slice-volume.is)
      (subst (λ (vs : List (Volume g.row.D.Denot g.row.D-Piece.Denot)). At vs c.args.volume (slice_index_or c.as_slice.result.now c.args.volume volume)) c.as_slice.ensures.value
      (at_read c.as_slice.result.now c.args.volume volume (let long = ap length c.as_slice.ensures.value in omega (arith, within, long)))) in
      let was = volume_of store c.args.volume volume c.self.invariant at in
      let known = volume_at k c.args.volume in
      let said : room_answer store.settings known.frozen (room_refusal_of store.settings c.args.volume known c.args.size) ≡ c.room.result =
      ap (λ n. room_answer store.settings known.frozen (room_refusal_of store.settings n known c.args.size)) (sym was.number)
      ∙ ap (λ (s : Settings). room_answer s known.frozen (room_refusal_of s (volume).number known c.args.size)) (sym was.settings_are)
      ∙ sym (c.room.ensures.known tells known (volume_stood g.D.Disk.files g.D.Piece.Piece.Tells g.D.Disk.fault_count g.D.Disk.fuse_count g.A.Arm.fault_count store k c.args.volume volume here at)) in
      let thawed : closed store.settings k c.args.volume ≡ None =
      ap (λ (st : Open g.row.D.Denot g.row.D-Piece.Denot g.row.A.Denot). closed st.settings k c.args.volume) c.self.view_is ∙ sym (c.closed_by.ensures.known tells k stands) ∙ c.in_default.is in
      subst (λ (st : Open g.row.D.Denot g.row.D-Piece.Denot g.row.A.Denot). None ≡ refusal_of st.settings k c.args.size c.args.volume) c.self.view_is
      (taken_for store.settings k c.args.volume c.args.size thawed (said ∙ c.in-Ok.is));
  takes = λ other there.
      let store : Open g.row.D.Denot g.row.D-Piece.Denot g.row.A.Denot = record {
        settings = c.self.inside.settings;
        directory = c.self.inside.directory;
        volumes = c.self.inside.volumes.items;
        arms = c.self.inside.seats.items;
      } in
      let within : c.args.volume < length c.self.inside.volumes.items =
      let same = ap (λ (st : Open g.row.D.Denot g.row.D-Piece.Denot g.row.A.Denot). (st.settings).volumes) c.self.view_is in omega (arith, c.requires.volume, c.self.invariant.many, same) in
      let volume = c.index-as_slice-volume.result in
      let at : At store.volumes c.args.volume volume = subst (λ (w : Volume g.row.D.Denot g.row.D-Piece.Denot). At store.volumes c.args.volume w) (sym c.index-as_slice-volume.is)
      (subst (λ (vs : List (Volume g.row.D.Denot g.row.D-Piece.Denot)). At vs c.args.volume (slice_index_or c.as_slice.result.now c.args.volume volume)) c.as_slice.ensures.value
      (at_read c.as_slice.result.now c.args.volume volume (let long = ap length c.as_slice.ensures.value in omega (arith, within, long)))) in
      let here = subst (λ (st : Open g.row.D.Denot g.row.D-Piece.Denot g.row.A.Denot). At st.volumes c.args.volume volume) c.self.view_is at in
      let one : Some volume ≡ Some other = sym here ∙ there in
      let same : volume ≡ other = cc in
      subst (λ (w : Volume g.row.D.Denot g.row.D-Piece.Denot). (w.frozen ≡ None) × ((j : ℕ) (r : Copy g.row.D.Denot) → At w.replicas j r → RoomFor c.args.size r)) same c.in-Ok.ensures.fits;
  refuses = tt;
  fits = tt;
  takes_seen =
      let store : Open g.row.D.Denot g.row.D-Piece.Denot g.row.A.Denot = record {
        settings = c.self.inside.settings;
        directory = c.self.inside.directory;
        volumes = c.self.inside.volumes.items;
        arms = c.self.inside.seats.items;
      } in
      let within : c.args.volume < length c.self.inside.volumes.items =
      let same = ap (λ (st : Open g.row.D.Denot g.row.D-Piece.Denot g.row.A.Denot). (st.settings).volumes) c.self.view_is in omega (arith, c.requires.volume, c.self.invariant.many, same) in
      let volume = c.index-as_slice-volume.result in
      let at : At store.volumes c.args.volume volume = subst (λ (w : Volume g.row.D.Denot g.row.D-Piece.Denot). At store.volumes c.args.volume w) (sym c.index-as_slice-volume.is)
      (subst (λ (vs : List (Volume g.row.D.Denot g.row.D-Piece.Denot)). At vs c.args.volume (slice_index_or c.as_slice.result.now c.args.volume volume)) c.as_slice.ensures.value
      (at_read c.as_slice.result.now c.args.volume volume (let long = ap length c.as_slice.ensures.value in omega (arith, within, long)))) in
      let was = volume_of store c.args.volume volume c.self.invariant at in
      let room = IfOk-at_ok _ c.in-Ok.is c.room.ensures.seen in
      let same = was.settings_are ∙ ap (λ (st : Open g.row.D.Denot g.row.D-Piece.Denot g.row.A.Denot). st.settings) c.self.view_is in (
        (c.in_default.ensures).opens,
        (
          volume_seen volume,
          seen_at c.args.self.now store c.self.view_is c.args.volume volume at,
          subst (λ (s : Settings). RoomSeen s c.args.size (volume_seen volume)) same room,
        ),
      );
  refuses_seen = tt;
}

pub returns-in-Err : goal.returns-in-Err
returns-in-Err g c = record {
  known = λ tells k stands.
      let store : Open g.row.D.Denot g.row.D-Piece.Denot g.row.A.Denot = record {
        settings = c.self.inside.settings;
        directory = c.self.inside.directory;
        volumes = c.self.inside.volumes.items;
        arms = c.self.inside.seats.items;
      } in
      let here =
      subst (λ (st : Open g.row.D.Denot g.row.D-Piece.Denot g.row.A.Denot). Stands g.D.Disk.files g.D.Piece.Piece.Tells g.D.Disk.fault_count g.D.Disk.fuse_count
      g.A.Arm.fault_count st k) (sym c.self.view_is) stands in
      let within : c.args.volume < length c.self.inside.volumes.items =
      let same = ap (λ (st : Open g.row.D.Denot g.row.D-Piece.Denot g.row.A.Denot). (st.settings).volumes) c.self.view_is in omega (arith, c.requires.volume, c.self.invariant.many, same) in
      let volume = c.index-as_slice-volume.result in
      let at : At store.volumes c.args.volume volume = subst (λ (w : Volume g.row.D.Denot g.row.D-Piece.Denot). At store.volumes c.args.volume w) (sym c.index-as_slice-volume.is)
      (subst (λ (vs : List (Volume g.row.D.Denot g.row.D-Piece.Denot)). At vs c.args.volume (slice_index_or c.as_slice.result.now c.args.volume volume)) c.as_slice.ensures.value
      (at_read c.as_slice.result.now c.args.volume volume (let long = ap length c.as_slice.ensures.value in omega (arith, within, long)))) in
      let was = volume_of store c.args.volume volume c.self.invariant at in
      let known = volume_at k c.args.volume in
      let said : room_answer store.settings known.frozen (room_refusal_of store.settings c.args.volume known c.args.size) ≡ c.room.result =
      ap (λ n. room_answer store.settings known.frozen (room_refusal_of store.settings n known c.args.size)) (sym was.number)
      ∙ ap (λ (s : Settings). room_answer s known.frozen (room_refusal_of s (volume).number known c.args.size)) (sym was.settings_are)
      ∙ sym (c.room.ensures.known tells known (volume_stood g.D.Disk.files g.D.Piece.Piece.Tells g.D.Disk.fault_count g.D.Disk.fuse_count g.A.Arm.fault_count store k c.args.volume volume here at)) in
      let thawed : closed store.settings k c.args.volume ≡ None =
      ap (λ (st : Open g.row.D.Denot g.row.D-Piece.Denot g.row.A.Denot). closed st.settings k c.args.volume) c.self.view_is ∙ sym (c.closed_by.ensures.known tells k stands) ∙ c.in_default.is in
      sym c.lack_of.ensures.is ∙ subst (λ (st : Open g.row.D.Denot g.row.D-Piece.Denot g.row.A.Denot). lack_of c.args.volume c.in-Err.fault
      ≡ refusal_of st.settings k c.args.size c.args.volume) c.self.view_is
      (refused_for store.settings k c.args.volume c.args.size c.in-Err.fault thawed (said ∙ c.in-Err.is));
  takes = tt;
  refuses =
      let store : Open g.row.D.Denot g.row.D-Piece.Denot g.row.A.Denot = record {
        settings = c.self.inside.settings;
        directory = c.self.inside.directory;
        volumes = c.self.inside.volumes.items;
        arms = c.self.inside.seats.items;
      } in
      let volume = c.index-as_slice-volume.result in
      let within : c.args.volume < length c.self.inside.volumes.items =
      let same = ap (λ (st : Open g.row.D.Denot g.row.D-Piece.Denot g.row.A.Denot). (st.settings).volumes) c.self.view_is in omega (arith, c.requires.volume, c.self.invariant.many, same) in
      let at : At store.volumes c.args.volume volume = subst (λ (w : Volume g.row.D.Denot g.row.D-Piece.Denot). At store.volumes c.args.volume w) (sym c.index-as_slice-volume.is)
      (subst (λ (vs : List (Volume g.row.D.Denot g.row.D-Piece.Denot)). At vs c.args.volume (slice_index_or c.as_slice.result.now c.args.volume volume)) c.as_slice.ensures.value
      (at_read c.as_slice.result.now c.args.volume volume (let long = ap length c.as_slice.ensures.value in omega (arith, within, long)))) in
      let was = volume_of store c.args.volume volume c.self.invariant at in
      let same = ap (λ (st : Open g.row.D.Denot g.row.D-Piece.Denot g.row.A.Denot). st.settings) c.self.view_is in
      let cause = subst (λ (s : Settings). IsRoomFault s volume.number c.in-Err.fault) (was.settings_are ∙ same) (IfErr-at_err _ c.in-Err.is c.room.ensures.causes) in
      let settings = (c.args.self.now).settings in
      let room = IfErr-at_err _ c.in-Err.is c.room.ensures.refused_seen in
      let full = subst (λ n. RoomRefusedSeen settings n c.args.size (volume_seen volume) c.in-Err.fault) was.number
      (subst (λ (s : Settings). RoomRefusedSeen s volume.number c.args.size (volume_seen volume) c.in-Err.fault) (was.settings_are ∙ same) room) in
      subst (λ (o : Option Refused). IfSome o (Refuses settings c.args.size c.args.volume)) c.lack_of.ensures.is
      (lack_refuses settings c.args.size c.args.volume (volume_seen volume) c.in-Err.fault (subst (λ (s : Settings). IsBuilt s) same c.self.invariant.built) c.requires.volume
      (subst (λ n. IsRoomFault settings n c.in-Err.fault) was.number cause) full);
  fits = c.lack_of.ensures.fits;
  takes_seen = tt;
  refuses_seen =
      let store : Open g.row.D.Denot g.row.D-Piece.Denot g.row.A.Denot = record {
        settings = c.self.inside.settings;
        directory = c.self.inside.directory;
        volumes = c.self.inside.volumes.items;
        arms = c.self.inside.seats.items;
      } in
      let within : c.args.volume < length c.self.inside.volumes.items =
      let same = ap (λ (st : Open g.row.D.Denot g.row.D-Piece.Denot g.row.A.Denot). (st.settings).volumes) c.self.view_is in omega (arith, c.requires.volume, c.self.invariant.many, same) in
      let volume = c.index-as_slice-volume.result in
      let at : At store.volumes c.args.volume volume = subst (λ (w : Volume g.row.D.Denot g.row.D-Piece.Denot). At store.volumes c.args.volume w) (sym c.index-as_slice-volume.is)
      (subst (λ (vs : List (Volume g.row.D.Denot g.row.D-Piece.Denot)). At vs c.args.volume (slice_index_or c.as_slice.result.now c.args.volume volume)) c.as_slice.ensures.value
      (at_read c.as_slice.result.now c.args.volume volume (let long = ap length c.as_slice.ensures.value in omega (arith, within, long)))) in
      let was = volume_of store c.args.volume volume c.self.invariant at in
      let same = ap (λ (st : Open g.row.D.Denot g.row.D-Piece.Denot g.row.A.Denot). st.settings) c.self.view_is in
      let settings = (c.args.self.now).settings in
      let cause = subst (λ (s : Settings). IsRoomFault s volume.number c.in-Err.fault) (was.settings_are ∙ same) (IfErr-at_err _ c.in-Err.is c.room.ensures.causes) in
      let room = IfErr-at_err _ c.in-Err.is c.room.ensures.refused_seen in
      let full = subst (λ n. RoomRefusedSeen settings n c.args.size (volume_seen volume) c.in-Err.fault) was.number
      (subst (λ (s : Settings). RoomRefusedSeen s volume.number c.args.size (volume_seen volume) c.in-Err.fault) (was.settings_are ∙ same) room) in
      let lacks = subst (λ (o : Option Refused). IfSome o (Refuses settings c.args.size c.args.volume)) c.lack_of.ensures.is
      (lack_refuses settings c.args.size c.args.volume (volume_seen volume) c.in-Err.fault (subst (λ (s : Settings). IsBuilt s) same c.self.invariant.built) c.requires.volume
      (subst (λ n. IsRoomFault settings n c.in-Err.fault) was.number cause) full) in (
        lacks,
        lack_seen settings (store_seen c.args.self.now) c.args.size c.args.volume (volume_seen volume) c.in-Err.fault c.lack_of.result c.lack_of.ensures.is (c.in_default.ensures).opens
            (seen_at c.args.self.now store c.self.view_is c.args.volume volume at) full,
      );
}

pub returns-in-Some-clause-refuses : goal.returns-in-Some-clause-refuses
returns-in-Some-clause-refuses g c = (refl, (c.in-Some.ensures).on)

pub lack_of-requires : goal.lack_of-requires
lack_of-requires g c = room_lack (c.index-as_slice-volume.result).settings (c.index-as_slice-volume.result).number c.in-Err.fault (IfErr-at_err _ c.in-Err.is c.room.ensures.causes)

pub returns-in-Some-clause-refuses_seen : goal.returns-in-Some-clause-refuses_seen
returns-in-Some-clause-refuses_seen g c = ((refl, (c.in-Some.ensures).on), (c.in-Some.ensures).closes)
