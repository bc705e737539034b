use Rattle.std.proofs.Common.{◌≡◌, ◌<◌, List, Some, None, length, sym, ap, subst, ◌∙◌, arith, ℕ, Option, false, inl}
use Rattle.std.specs.Prelude.{slice_index_or, IfSome, IfNone}
use Rattle.hay_legal.specs.Known.{closed_by, drained_of, volume_at}
use Rattle.hay_legal.specs.Suiting.{IsOn}
use Rattle.hay_logical.specs.Fits.{At}
use Rattle.hay_logical.specs.Volumes.{Volume}
use Rattle.hay_logical.proofs.Lists.{at_read}
use Rattle.hay_cluster.specs.State.{Stands}
use Rattle.hay_cluster.specs.Store.{Open, IsBuilt}
use Rattle.hay_cluster.proofs.Refusals.{drained-known}
use Rattle.hay_cluster.proofs.Moves.{volume_stood}
use Rattle.hay_needle.specs.declared.settings.Settings.{Settings}
use Rattle.hay_cluster.proofs.Calls.{machine_on}
use Rattle.hay_cluster.proofs.Suiting.{drained_on}
use Rattle.hay_cluster.specs.Seen as seen
use Rattle.hay_cluster.specs.Seen.{store_seen}
use Rattle.hay_logical.specs.Seen.{volume_seen}
use Rattle.hay_cluster.proofs.Seeing.{seen_at}
use Rattle.hay_cluster.proofs.Drained.{drained_closes, undrained_opens}
use Rattle.hay_cluster.proofs.cluster.Cluster.closed_by.Goals as goal

pub offset_bounds-as_slice-volume : goal.offset_bounds-as_slice-volume
offset_bounds-as_slice-volume g c =
    let within : c.args.volume < length c.self.inside.volumes.items =
    let same = ap (λ (st : Open g.row.D.Denot g.row.D-Piece.Denot g.row.A.Denot). (st.settings).volumes) c.self.view_is in omega (arith, c.requires.volume, c.self.invariant.many, same) in
    let long = ap length c.as_slice.ensures.value in
    omega (arith, within, long)

pub returns-in-Some : goal.returns-in-Some
returns-in-Some g c = record {
  known = λ tells k stands.
      let store : Open g.row.D.Denot g.row.D-Piece.Denot g.row.A.Denot = record {
        settings = c.self.inside.settings;
        directory = c.self.inside.directory;
        volumes = c.self.inside.volumes.items;
        arms = c.self.inside.seats.items;
      } in
      let here =
      subst (λ (st : Open g.row.D.Denot g.row.D-Piece.Denot g.row.A.Denot). Stands g.D.Disk.files g.D.Piece.Piece.Tells g.D.Disk.fault_count g.D.Disk.fuse_count
      g.A.Arm.fault_count st k) (sym c.self.view_is) stands in
      let within : c.args.volume < length c.self.inside.volumes.items =
      let same = ap (λ (st : Open g.row.D.Denot g.row.D-Piece.Denot g.row.A.Denot). (st.settings).volumes) c.self.view_is in omega (arith, c.requires.volume, c.self.invariant.many, same) in
      let volume = c.index-as_slice-volume.result in
      let at : At store.volumes c.args.volume volume = subst (λ (w : Volume g.row.D.Denot g.row.D-Piece.Denot). At store.volumes c.args.volume w) (sym c.index-as_slice-volume.is)
      (subst (λ (vs : List (Volume g.row.D.Denot g.row.D-Piece.Denot)). At vs c.args.volume (slice_index_or c.as_slice.result.now c.args.volume volume)) c.as_slice.ensures.value
      (at_read c.as_slice.result.now c.args.volume volume (let long = ap length c.as_slice.ensures.value in omega (arith, within, long)))) in
      let frozen : (volume_at k c.args.volume).frozen ≡ Some c.in-Some.machine =
      sym (c.frozen.ensures.known tells (volume_at k c.args.volume) (volume_stood g.D.Disk.files g.D.Piece.Piece.Tells g.D.Disk.fault_count g.D.Disk.fuse_count
      g.A.Arm.fault_count store k c.args.volume volume here at)) ∙ c.in-Some.is in
      sym (ap (λ f. closed_by f (drained_of (c.args.self.now).settings k c.args.volume)) frozen);
  on =
      let store : Open g.row.D.Denot g.row.D-Piece.Denot g.row.A.Denot = record {
        settings = c.self.inside.settings;
        directory = c.self.inside.directory;
        volumes = c.self.inside.volumes.items;
        arms = c.self.inside.seats.items;
      } in
      let within : c.args.volume < length c.self.inside.volumes.items =
      let same = ap (λ (st : Open g.row.D.Denot g.row.D-Piece.Denot g.row.A.Denot). (st.settings).volumes) c.self.view_is in omega (arith, c.requires.volume, c.self.invariant.many, same) in
      let volume = c.index-as_slice-volume.result in
      let at : At store.volumes c.args.volume volume = subst (λ (w : Volume g.row.D.Denot g.row.D-Piece.Denot). At store.volumes c.args.volume w) (sym c.index-as_slice-volume.is)
      (subst (λ (vs : List (Volume g.row.D.Denot g.row.D-Piece.Denot)). At vs c.args.volume (slice_index_or c.as_slice.result.now c.args.volume volume)) c.as_slice.ensures.value
      (at_read c.as_slice.result.now c.args.volume volume (let long = ap length c.as_slice.ensures.value in omega (arith, within, long)))) in
      machine_on c.args.self.now store c.args.volume volume c.in-Some.machine c.self.view_is c.self.invariant at (c.in-Some.ensures).on;
  opens = tt;
  closes =
      let store : Open g.row.D.Denot g.row.D-Piece.Denot g.row.A.Denot = record {
        settings = c.self.inside.settings;
        directory = c.self.inside.directory;
        volumes = c.self.inside.volumes.items;
        arms = c.self.inside.seats.items;
      } in
      let within : c.args.volume < length c.self.inside.volumes.items =
      let same = ap (λ (st : Open g.row.D.Denot g.row.D-Piece.Denot g.row.A.Denot). (st.settings).volumes) c.self.view_is in omega (arith, c.requires.volume, c.self.invariant.many, same) in
      let volume = c.index-as_slice-volume.result in
      let at : At store.volumes c.args.volume volume = subst (λ (w : Volume g.row.D.Denot g.row.D-Piece.Denot). At store.volumes c.args.volume w) (sym c.index-as_slice-volume.is)
      (subst (λ (vs : List (Volume g.row.D.Denot g.row.D-Piece.Denot)). At vs c.args.volume (slice_index_or c.as_slice.result.now c.args.volume volume)) c.as_slice.ensures.value
      (at_read c.as_slice.result.now c.args.volume volume (let long = ap length c.as_slice.ensures.value in omega (arith, within, long)))) in
      inl (volume_seen volume, seen_at c.args.self.now store c.self.view_is c.args.volume volume at, sym c.frozen.ensures.is ∙ c.in-Some.is);
}

pub returns-in-None : goal.returns-in-None
returns-in-None g c = record {
  known = λ tells k stands.
      let store : Open g.row.D.Denot g.row.D-Piece.Denot g.row.A.Denot = record {
        settings = c.self.inside.settings;
        directory = c.self.inside.directory;
        volumes = c.self.inside.volumes.items;
        arms = c.self.inside.seats.items;
      } in
      let here =
      subst (λ (st : Open g.row.D.Denot g.row.D-Piece.Denot g.row.A.Denot). Stands g.D.Disk.files g.D.Piece.Piece.Tells g.D.Disk.fault_count g.D.Disk.fuse_count
      g.A.Arm.fault_count st k) (sym c.self.view_is) stands in
      let within : c.args.volume < length c.self.inside.volumes.items =
      let same = ap (λ (st : Open g.row.D.Denot g.row.D-Piece.Denot g.row.A.Denot). (st.settings).volumes) c.self.view_is in omega (arith, c.requires.volume, c.self.invariant.many, same) in
      let volume = c.index-as_slice-volume.result in
      let at : At store.volumes c.args.volume volume = subst (λ (w : Volume g.row.D.Denot g.row.D-Piece.Denot). At store.volumes c.args.volume w) (sym c.index-as_slice-volume.is)
      (subst (λ (vs : List (Volume g.row.D.Denot g.row.D-Piece.Denot)). At vs c.args.volume (slice_index_or c.as_slice.result.now c.args.volume volume)) c.as_slice.ensures.value
      (at_read c.as_slice.result.now c.args.volume volume (let long = ap length c.as_slice.ensures.value in omega (arith, within, long)))) in
      let frozen : (volume_at k c.args.volume).frozen ≡ None =
      sym (c.frozen.ensures.known tells (volume_at k c.args.volume) (volume_stood g.D.Disk.files g.D.Piece.Piece.Tells g.D.Disk.fault_count g.D.Disk.fuse_count
      g.A.Arm.fault_count store k c.args.volume volume here at)) ∙ c.in-None.is in
      c.drained_by.ensures ∙ drained-known g.D.Disk.files g.D.Piece.Piece.Tells g.D.Disk.fault_count g.D.Disk.fuse_count g.A.Arm.fault_count c.args.self.now k c.args.volume stands
      ∙ sym (ap (λ f. closed_by f (drained_of (c.args.self.now).settings k c.args.volume)) frozen);
  on =
      let same = ap (λ (st : Open g.row.D.Denot g.row.D-Piece.Denot g.row.A.Denot). st.settings) c.self.view_is in
      subst (λ (o : Option ℕ). IfSome o (IsOn (c.args.self.now).settings c.args.volume)) (sym c.drained_by.ensures)
      (drained_on (c.args.self.now).settings c.args.volume (λ m. slice_index_or ((c.args.self.now).directory).drained m false)
      (subst (λ (s : Settings). IsBuilt s) same c.self.invariant.built) c.requires.volume);
  opens =
      let store : Open g.row.D.Denot g.row.D-Piece.Denot g.row.A.Denot = record {
        settings = c.self.inside.settings;
        directory = c.self.inside.directory;
        volumes = c.self.inside.volumes.items;
        arms = c.self.inside.seats.items;
      } in
      let within : c.args.volume < length c.self.inside.volumes.items =
      let same = ap (λ (st : Open g.row.D.Denot g.row.D-Piece.Denot g.row.A.Denot). (st.settings).volumes) c.self.view_is in omega (arith, c.requires.volume, c.self.invariant.many, same) in
      let volume = c.index-as_slice-volume.result in
      let at : At store.volumes c.args.volume volume = subst (λ (w : Volume g.row.D.Denot g.row.D-Piece.Denot). At store.volumes c.args.volume w) (sym c.index-as_slice-volume.is)
      (subst (λ (vs : List (Volume g.row.D.Denot g.row.D-Piece.Denot)). At vs c.args.volume (slice_index_or c.as_slice.result.now c.args.volume volume)) c.as_slice.ensures.value
      (at_read c.as_slice.result.now c.args.volume volume (let long = ap length c.as_slice.ensures.value in omega (arith, within, long)))) in
      let thawed : seen.IsThawed (store_seen c.args.self.now) c.args.volume =
      (volume_seen volume, seen_at c.args.self.now store c.self.view_is c.args.volume volume at, (sym c.frozen.ensures.is ∙ c.in-None.is, (c.in-None.ensures).settled)) in
      subst (λ (o : Option ℕ). IfNone o (seen.IsOpenTo (c.args.self.now).settings (store_seen c.args.self.now) c.args.volume)) (sym c.drained_by.ensures)
      (undrained_opens (c.args.self.now).settings (store_seen c.args.self.now) c.args.volume thawed);
  closes =
      let store : Open g.row.D.Denot g.row.D-Piece.Denot g.row.A.Denot = record {
        settings = c.self.inside.settings;
        directory = c.self.inside.directory;
        volumes = c.self.inside.volumes.items;
        arms = c.self.inside.seats.items;
      } in
      let within : c.args.volume < length c.self.inside.volumes.items =
      let same = ap (λ (st : Open g.row.D.Denot g.row.D-Piece.Denot g.row.A.Denot). (st.settings).volumes) c.self.view_is in omega (arith, c.requires.volume, c.self.invariant.many, same) in
      let volume = c.index-as_slice-volume.result in
      let at : At store.volumes c.args.volume volume = subst (λ (w : Volume g.row.D.Denot g.row.D-Piece.Denot). At store.volumes c.args.volume w) (sym c.index-as_slice-volume.is)
      (subst (λ (vs : List (Volume g.row.D.Denot g.row.D-Piece.Denot)). At vs c.args.volume (slice_index_or c.as_slice.result.now c.args.volume volume)) c.as_slice.ensures.value
      (at_read c.as_slice.result.now c.args.volume volume (let long = ap length c.as_slice.ensures.value in omega (arith, within, long)))) in
      let thawed : seen.IsThawed (store_seen c.args.self.now) c.args.volume =
      (volume_seen volume, seen_at c.args.self.now store c.self.view_is c.args.volume volume at, (sym c.frozen.ensures.is ∙ c.in-None.is, (c.in-None.ensures).settled)) in
      subst (λ (o : Option ℕ). IfSome o (seen.Closes (c.args.self.now).settings (store_seen c.args.self.now) c.args.volume)) (sym c.drained_by.ensures)
      (drained_closes (c.args.self.now).settings (store_seen c.args.self.now) c.args.volume thawed);
}
