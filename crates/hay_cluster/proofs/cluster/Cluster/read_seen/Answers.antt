use Rattle.std.proofs.Common.{◌≡◌, ℕ, ◌+◌, ◌%◌, ◌<◌, true, List, length, sym, ap, subst, ◌∙◌, arith}
use Rattle.std.specs.Prelude.{slice_index_or}
use Rattle.hay_needle.specs.declared.settings.Settings.{Settings}
use Rattle.hay_legal.specs.Known.{volume_at}
use Rattle.hay_map.specs.Places.{place_in}
use Rattle.hay_map.specs.declared.place.Place.{Place}
use Rattle.hay_logical.specs.Fits.{At}
use Rattle.hay_logical.specs.ReplicaCalls.{IsSeenBy}
use Rattle.hay_logical.specs.Volumes.{Volume}
use Rattle.hay_logical.proofs.Lists.{at_read}
use Rattle.hay_reader.specs.Causes.{ArmUse, ComeFirst}
use Rattle.hay_reader.specs.Shown.{ShowsAt}
use Rattle.hay_reader.proofs.Outcomes.{answers_row}
use Rattle.hay_cluster.specs.Reads.{outcomes_of}
use Rattle.hay_cluster.specs.State.{Stands}
use Rattle.hay_cluster.specs.Store.{Open}
use Rattle.hay_cluster.proofs.Moves.{volume_of, volume_stood}
use Rattle.hay_cluster.proofs.Showing.{answers_say, can_show, its_photo, row_may_mean}
use Rattle.hay_cluster.proofs.Sighting.{photos_at}
use Rattle.hay_cluster.proofs.ReadSights.{shown_sees, sees_in}
use Rattle.hay_logical.specs.Sights.{Sights}
use Rattle.hay_map.specs.Rows.{row_at}
use Rattle.hay_cluster.specs.Seen.{store_seen}
use Rattle.hay_cluster.proofs.cluster.Cluster.read_seen.Goals as goal

pub offset_bounds-as_slice-volume : goal.offset_bounds-as_slice-volume
offset_bounds-as_slice-volume g c =
    let within : c.args.volume < length c.self.inside.volumes.items =
    let same = ap (λ (st : Open g.row.D.Denot g.row.D-Piece.Denot g.row.A.Denot). (st.settings).volumes) c.self.view_is in omega (arith, c.requires.volume, c.self.invariant.many, same) in
    let long = ap length c.as_slice.ensures.value in
    omega (arith, within, long)

pub show_seen-requires : goal.show_seen-requires
show_seen-requires g c =
    let store : Open g.row.D.Denot g.row.D-Piece.Denot g.row.A.Denot = record {
      settings = c.self.inside.settings;
      directory = c.self.inside.directory;
      volumes = c.self.inside.volumes.items;
      arms = c.self.inside.seats.items;
    } in
    let within : c.args.volume < length c.self.inside.volumes.items =
    let same = ap (λ (st : Open g.row.D.Denot g.row.D-Piece.Denot g.row.A.Denot). (st.settings).volumes) c.self.view_is in omega (arith, c.requires.volume, c.self.invariant.many, same) in
    let volume = c.index-as_slice-volume.result in
    let at : At store.volumes c.args.volume volume = subst (λ (w : Volume g.row.D.Denot g.row.D-Piece.Denot). At store.volumes c.args.volume w) (sym c.index-as_slice-volume.is)
    (subst (λ (vs : List (Volume g.row.D.Denot g.row.D-Piece.Denot)). At vs c.args.volume (slice_index_or c.as_slice.result.now c.args.volume volume)) c.as_slice.ensures.value
    (at_read c.as_slice.result.now c.args.volume volume (let long = ap length c.as_slice.ensures.value in omega (arith, within, long)))) in
    let was = volume_of store c.args.volume volume c.self.invariant at in
    let same = was.settings_are ∙ ap (λ (st : Open g.row.D.Denot g.row.D-Piece.Denot g.row.A.Denot). st.settings) c.self.view_is in
    let row : length c.look-row.result.row ≡ ((c.args.self.now).settings).replicas = c.look-row.ensures.long ∙ ap (λ (s : Settings). s.replicas) same in
    let there : At (c.args.self.now).volumes c.args.volume volume = subst (λ (st : Open g.row.D.Denot g.row.D-Piece.Denot g.row.A.Denot). At st.volumes c.args.volume volume) c.self.view_is at in
    let by : IsSeenBy g.D.Disk.Tells g.D.Piece.Piece.Tells c.args.needle.now (place_in c.look-row.result.row ((c.args.start + length c.args.passed) % length c.look-row.result.row)) =
    subst (λ (n : ℕ). IsSeenBy g.D.Disk.Tells g.D.Piece.Piece.Tells c.args.needle.now (place_in c.look-row.result.row ((c.args.start + length c.args.passed) % n))) (sym row)
    (subst (λ (l : List (Place g.row.D-Piece.Denot)). IsSeenBy g.D.Disk.Tells g.D.Piece.Piece.Tells c.args.needle.now
    (place_in l ((c.args.start + length c.args.passed) % ((c.args.self.now).settings).replicas))) (sym c.look-row.ensures.row)
    (c.requires.needle volume there)) in
    let start : c.args.start < length c.look-row.result.row = omega (arith, c.requires.start, row) in
    let first : ComeFirst c.args.start (length c.look-row.result.row) c.args.passed = subst (λ n. ComeFirst c.args.start n c.args.passed) (sym row) c.requires.first in
    let fewer : length c.args.passed < length c.look-row.result.row = omega (arith, c.requires.fewer, row) in
    record { start = start; first = first; fewer = fewer; needle = can_show g.D.Disk.Tells g.D.Piece.Piece.Tells c.args.needle.now _ by; empty = c.requires.empty; room = c.requires.room }

pub returns-clause-says : goal.returns-clause-says
returns-clause-says g c = λ tells k stands.
    let store : Open g.row.D.Denot g.row.D-Piece.Denot g.row.A.Denot = record {
      settings = c.self.inside.settings;
      directory = c.self.inside.directory;
      volumes = c.self.inside.volumes.items;
      arms = c.self.inside.seats.items;
    } in
    let within : c.args.volume < length c.self.inside.volumes.items =
    let same = ap (λ (st : Open g.row.D.Denot g.row.D-Piece.Denot g.row.A.Denot). (st.settings).volumes) c.self.view_is in omega (arith, c.requires.volume, c.self.invariant.many, same) in
    let volume = c.index-as_slice-volume.result in
    let at : At store.volumes c.args.volume volume = subst (λ (w : Volume g.row.D.Denot g.row.D-Piece.Denot). At store.volumes c.args.volume w) (sym c.index-as_slice-volume.is)
    (subst (λ (vs : List (Volume g.row.D.Denot g.row.D-Piece.Denot)). At vs c.args.volume (slice_index_or c.as_slice.result.now c.args.volume volume)) c.as_slice.ensures.value
    (at_read c.as_slice.result.now c.args.volume volume (let long = ap length c.as_slice.ensures.value in omega (arith, within, long)))) in
    let was = volume_of store c.args.volume volume c.self.invariant at in
    let same = was.settings_are ∙ ap (λ (st : Open g.row.D.Denot g.row.D-Piece.Denot g.row.A.Denot). st.settings) c.self.view_is in
    let row : length c.look-row.result.row ≡ ((c.args.self.now).settings).replicas = c.look-row.ensures.long ∙ ap (λ (s : Settings). s.replicas) same in
    let there : At (c.args.self.now).volumes c.args.volume volume = subst (λ (st : Open g.row.D.Denot g.row.D-Piece.Denot g.row.A.Denot). At st.volumes c.args.volume volume) c.self.view_is at in
    let by : IsSeenBy g.D.Disk.Tells g.D.Piece.Piece.Tells c.args.needle.now (place_in c.look-row.result.row ((c.args.start + length c.args.passed) % length c.look-row.result.row)) =
    subst (λ (n : ℕ). IsSeenBy g.D.Disk.Tells g.D.Piece.Piece.Tells c.args.needle.now (place_in c.look-row.result.row ((c.args.start + length c.args.passed) % n))) (sym row)
    (subst (λ (l : List (Place g.row.D-Piece.Denot)). IsSeenBy g.D.Disk.Tells g.D.Piece.Piece.Tells c.args.needle.now
    (place_in l ((c.args.start + length c.args.passed) % ((c.args.self.now).settings).replicas))) (sym c.look-row.ensures.row)
    (c.requires.needle volume there)) in
    let here =
    subst (λ (st : Open g.row.D.Denot g.row.D-Piece.Denot g.row.A.Denot). Stands g.D.Disk.files g.D.Piece.Piece.Tells g.D.Disk.fault_count g.D.Disk.fuse_count
    g.A.Arm.fault_count st k) (sym c.self.view_is) stands in
    let known =
    c.look-row.ensures.known tells (volume_at k c.args.volume) (volume_stood g.D.Disk.files g.D.Piece.Piece.Tells g.D.Disk.fault_count g.D.Disk.fuse_count g.A.Arm.fault_count
    store k c.args.volume volume here at) in
    let all = was.all ∙ ap (λ (s : Settings). s.replicas) same in
    let means = row_may_mean g.D.Disk.files g.D.Piece.Piece.Tells volume.replicas c.look-row.result.row (c.args.self.now).settings (volume_at k c.args.volume) c.args.pair row all known.1 in
    let none : ArmUse = record { sure = true; before = 0; after = 0 } in
    let reads = c.show_seen.ensures.reads none (its_photo g.D.Disk.Tells g.D.Piece.Piece.Tells c.args.needle.now _ tells by) in
    answers_say c.args.start 0 0 c.args.cookie c.args.passed (outcomes_of (c.args.self.now).settings (volume_at k c.args.volume) c.args.pair) c.show_seen.new.out.items c.show_seen.result
    (answers_row g.D.Piece.Piece.Tells none c.args.start c.look-row.result.row c.args.cookie c.args.passed c.show_seen.new.out.items c.show_seen.result c.args.pair _ (omega arith) means reads)

pub returns-clause-next : goal.returns-clause-next
returns-clause-next g c =
    let store : Open g.row.D.Denot g.row.D-Piece.Denot g.row.A.Denot = record {
      settings = c.self.inside.settings;
      directory = c.self.inside.directory;
      volumes = c.self.inside.volumes.items;
      arms = c.self.inside.seats.items;
    } in
    let within : c.args.volume < length c.self.inside.volumes.items =
    let same = ap (λ (st : Open g.row.D.Denot g.row.D-Piece.Denot g.row.A.Denot). (st.settings).volumes) c.self.view_is in omega (arith, c.requires.volume, c.self.invariant.many, same) in
    let volume = c.index-as_slice-volume.result in
    let at : At store.volumes c.args.volume volume = subst (λ (w : Volume g.row.D.Denot g.row.D-Piece.Denot). At store.volumes c.args.volume w) (sym c.index-as_slice-volume.is)
    (subst (λ (vs : List (Volume g.row.D.Denot g.row.D-Piece.Denot)). At vs c.args.volume (slice_index_or c.as_slice.result.now c.args.volume volume)) c.as_slice.ensures.value
    (at_read c.as_slice.result.now c.args.volume volume (let long = ap length c.as_slice.ensures.value in omega (arith, within, long)))) in
    let was = volume_of store c.args.volume volume c.self.invariant at in
    let same = was.settings_are ∙ ap (λ (st : Open g.row.D.Denot g.row.D-Piece.Denot g.row.A.Denot). st.settings) c.self.view_is in
    let row : length c.look-row.result.row ≡ ((c.args.self.now).settings).replicas = c.look-row.ensures.long ∙ ap (λ (s : Settings). s.replicas) same in
    subst (λ (n : ℕ). ShowsAt ((c.args.start + length c.args.passed) % n) c.show_seen.result) row c.show_seen.ensures.next

pub returns-clause-sees : goal.returns-clause-sees
returns-clause-sees g c =
    let store : Open g.row.D.Denot g.row.D-Piece.Denot g.row.A.Denot = record {
      settings = c.self.inside.settings;
      directory = c.self.inside.directory;
      volumes = c.self.inside.volumes.items;
      arms = c.self.inside.seats.items;
    } in
    let within : c.args.volume < length c.self.inside.volumes.items =
    let same = ap (λ (st : Open g.row.D.Denot g.row.D-Piece.Denot g.row.A.Denot). (st.settings).volumes) c.self.view_is in omega (arith, c.requires.volume, c.self.invariant.many, same) in
    let volume = c.index-as_slice-volume.result in
    let at : At store.volumes c.args.volume volume = subst (λ (w : Volume g.row.D.Denot g.row.D-Piece.Denot). At store.volumes c.args.volume w) (sym c.index-as_slice-volume.is)
    (subst (λ (vs : List (Volume g.row.D.Denot g.row.D-Piece.Denot)). At vs c.args.volume (slice_index_or c.as_slice.result.now c.args.volume volume)) c.as_slice.ensures.value
    (at_read c.as_slice.result.now c.args.volume volume (let long = ap length c.as_slice.ensures.value in omega (arith, within, long)))) in
    sees_in c.look-row.result.row (row_at volume.rows c.args.pair) ((store_seen c.args.self.now).places c.args.volume c.args.pair) c.show_seen.result c.look-row.ensures.row
    (λ j. ap (λ (seen : Sights). seen c.args.pair j) (photos_at c.args.self.now store c.self.view_is c.args.volume volume at))
    (shown_sees c.look-row.result.row c.args.cookie c.args.passed c.show_seen.new.out.items c.args.needle.now ((c.args.start + length c.args.passed) % length c.look-row.result.row)
    c.show_seen.result c.show_seen.ensures.shows)
