use Rattle.std.proofs.Common.{◌≡◌, ◌<◌, ◌≤◌, ◌⊎◌, ◌^◌, List, length, map, sym, ap, subst, ◌∙◌, arith, refl}
use Rattle.std.specs.Prelude.{slice_index_or, slice_set}
use Rattle.std.proofs.lemmas.List.{with_items_is}
use borrow.Author.Rules.{scaled_Fits}
use Rattle.hay_needle.specs.declared.settings.Settings.{Settings}
use Rattle.hay_legal.specs.Known.{NoneFalls, volume_at}
use Rattle.hay_logical.specs.Fits.{At}
use Rattle.hay_logical.specs.Volumes.{Volume}
use Rattle.hay_logical.proofs.Lists.{at_read}
use Rattle.hay_reader.specs.Causes.{ComeFirst}
use Rattle.hay_reader.specs.Shown.{ReadsRow}
use Rattle.hay_reader.proofs.Outcomes.{answers_row}
use Rattle.hay_cluster.specs.Causes.{Counts}
use Rattle.hay_cluster.specs.Reads.{MayHave, NeverIn, counts_of, outcomes_of}
use Rattle.hay_cluster.specs.State.{Stands}
use Rattle.hay_cluster.specs.Store.{IsUp, Open, contents_in, disks_of}
use Rattle.hay_cluster.proofs.Lists.{length-set}
use Rattle.hay_cluster.proofs.Moves.{volume_of, volume_stood}
use Rattle.hay_cluster.proofs.Showing.{answers_say, counts_at, later_set, row_may_mean, row_read, row_stops, seat_comes}
use Rattle.hay_cluster.proofs.Sure.{arm_at, used_sure}
use Rattle.hay_cluster.specs.Seen.{store_seen}
use Rattle.hay_cluster.proofs.Sighting.{photos_at}
use Rattle.hay_cluster.proofs.ReadSights.{row_sees, sees_in}
use Rattle.hay_logical.specs.Sights.{Sights, sight}
use Rattle.hay_map.specs.Rows.{row_at}
use Rattle.hay_map.specs.Places.{place_in}
use Rattle.hay_map.specs.declared.place.Place.{Place}
use Rattle.hay_cluster.specs.Passing.{IsOfPlace}
use Rattle.hay_cluster.proofs.Calls.{called_open}
use Rattle.hay_cluster.proofs.Placing.{open_whole, row_had}
use Rattle.hay_cluster.proofs.cluster.Cluster.read_fetched.Goals as goal

pub offset_bounds-as_slice-volume : goal.offset_bounds-as_slice-volume
offset_bounds-as_slice-volume g c =
    let within : c.args.volume < length c.self.inside.volumes.items =
    let same = ap (λ (st : Open g.row.D.Denot g.row.D-Piece.Denot g.row.A.Denot). (st.settings).volumes) c.self.view_is in omega (arith, c.requires.volume, c.self.invariant.many, same) in
    let long = ap length c.as_slice.ensures.value in
    omega (arith, within, long)

pub offset_bounds-as_mut_slice-lane : goal.offset_bounds-as_mut_slice-lane
offset_bounds-as_mut_slice-lane g c =
    let inside : c.args.lane < length c.self.inside.seats.items = omega (arith, c.requires.lane, c.self.invariant.lanes) in
    let long = ap length c.as_mut_slice.ensures.value in
    scaled_Fits c.args.lane (length c.as_mut_slice.result.now) _ (omega (arith, inside, long)) c.as_mut_slice.type_inv.1

pub show_more-requires : goal.show_more-requires
show_more-requires g c =
    let store : Open g.row.D.Denot g.row.D-Piece.Denot g.row.A.Denot = record {
      settings = c.self.inside.settings;
      directory = c.self.inside.directory;
      volumes = c.self.inside.volumes.items;
      arms = c.self.inside.seats.items;
    } in
    let within : c.args.volume < length c.self.inside.volumes.items =
    let same = ap (λ (st : Open g.row.D.Denot g.row.D-Piece.Denot g.row.A.Denot). (st.settings).volumes) c.self.view_is in omega (arith, c.requires.volume, c.self.invariant.many, same) in
    let volume = c.index-as_slice-volume.result in
    let at : At store.volumes c.args.volume volume = subst (λ (w : Volume g.row.D.Denot g.row.D-Piece.Denot). At store.volumes c.args.volume w) (sym c.index-as_slice-volume.is)
    (subst (λ (vs : List (Volume g.row.D.Denot g.row.D-Piece.Denot)). At vs c.args.volume (slice_index_or c.as_slice.result.now c.args.volume volume)) c.as_slice.ensures.value
    (at_read c.as_slice.result.now c.args.volume volume (let long = ap length c.as_slice.ensures.value in omega (arith, within, long)))) in
    let was = volume_of store c.args.volume volume c.self.invariant at in
    let same = was.settings_are ∙ ap (λ (st : Open g.row.D.Denot g.row.D-Piece.Denot g.row.A.Denot). st.settings) c.self.view_is in
    let start : c.args.start < length c.look-row.result.row = let row = c.look-row.ensures.long ∙ ap (λ (s : Settings). s.replicas) same in omega (arith, c.requires.start, row) in
    let row = c.look-row.ensures.long ∙ ap (λ (s : Settings). s.replicas) same in
    let first : ComeFirst c.args.start (length c.look-row.result.row) c.args.passed = subst (λ n. ComeFirst c.args.start n c.args.passed) (sym row) c.requires.first in
    let fewer : length c.args.passed ≤ length c.look-row.result.row = subst (λ n. length c.args.passed ≤ n) (sym row) c.requires.fewer in
    record { start = start; first = first; fewer = fewer; empty = c.requires.empty; room = c.requires.room }

pub returns-clause-says : goal.returns-clause-says
returns-clause-says g c = λ tells k stands.
    let store : Open g.row.D.Denot g.row.D-Piece.Denot g.row.A.Denot = record {
      settings = c.self.inside.settings;
      directory = c.self.inside.directory;
      volumes = c.self.inside.volumes.items;
      arms = c.self.inside.seats.items;
    } in
    let within : c.args.volume < length c.self.inside.volumes.items =
    let same = ap (λ (st : Open g.row.D.Denot g.row.D-Piece.Denot g.row.A.Denot). (st.settings).volumes) c.self.view_is in omega (arith, c.requires.volume, c.self.invariant.many, same) in
    let volume = c.index-as_slice-volume.result in
    let at : At store.volumes c.args.volume volume = subst (λ (w : Volume g.row.D.Denot g.row.D-Piece.Denot). At store.volumes c.args.volume w) (sym c.index-as_slice-volume.is)
    (subst (λ (vs : List (Volume g.row.D.Denot g.row.D-Piece.Denot)). At vs c.args.volume (slice_index_or c.as_slice.result.now c.args.volume volume)) c.as_slice.ensures.value
    (at_read c.as_slice.result.now c.args.volume volume (let long = ap length c.as_slice.ensures.value in omega (arith, within, long)))) in
    let was = volume_of store c.args.volume volume c.self.invariant at in
    let same = was.settings_are ∙ ap (λ (st : Open g.row.D.Denot g.row.D-Piece.Denot g.row.A.Denot). st.settings) c.self.view_is in
    let inside : c.args.lane < length c.self.inside.seats.items = omega (arith, c.requires.lane, c.self.invariant.lanes) in
    let arm : g.row.A.Denot = slice_index_or c.as_mut_slice.result.now c.args.lane c.index-as_mut_slice-lane.result in
    let seat : At store.arms c.args.lane arm = subst (λ (xs : List (g.row.A.Denot)). At xs c.args.lane arm) c.as_mut_slice.ensures.value
    (at_read c.as_mut_slice.result.now c.args.lane c.index-as_mut_slice-lane.result (let long = ap length c.as_mut_slice.ensures.value in omega (arith, inside, long))) in
    let items =
    with_items_is c.self.inside.seats (slice_set c.as_mut_slice.result.now c.args.lane c.show_more.new.self)
    (length-set c.as_mut_slice.result.now c.args.lane c.show_more.new.self ∙ c.as_mut_slice.ensures.len)
    ∙ ap (λ (xs : List (g.row.A.Denot)). slice_set xs c.args.lane c.show_more.new.self) c.as_mut_slice.ensures.value in
    let here =
    subst (λ (st : Open g.row.D.Denot g.row.D-Piece.Denot g.row.A.Denot). Stands g.D.Disk.files g.D.Piece.Piece.Tells g.D.Disk.fault_count g.D.Disk.fuse_count
    g.A.Arm.fault_count st k) (sym c.self.view_is) stands in
    let known =
    c.look-row.ensures.known tells (volume_at k c.args.volume) (volume_stood g.D.Disk.files g.D.Piece.Piece.Tells g.D.Disk.fault_count g.D.Disk.fuse_count g.A.Arm.fault_count
    store k c.args.volume volume here at) in
    let long = c.look-row.ensures.long ∙ ap (λ (s : Settings). s.replicas) same in
    let all = was.all ∙ ap (λ (s : Settings). s.replicas) same in
    let means = row_may_mean g.D.Disk.files g.D.Piece.Piece.Tells volume.replicas c.look-row.result.row (c.args.self.now).settings (volume_at k c.args.volume) c.args.pair long all known.1 in
    let says =
    answers_say c.args.start (g.A.Arm.fault_count arm) (g.A.Arm.fault_count c.show_more.new.self) c.args.cookie c.args.passed
    (outcomes_of (c.args.self.now).settings (volume_at k c.args.volume) c.args.pair) c.show_more.new.out.items c.show_more.result
    (answers_row g.D.Piece.Piece.Tells (record { sure = g.A.Arm.is_sure arm; before = g.A.Arm.fault_count arm; after = g.A.Arm.fault_count c.show_more.new.self }) c.args.start
    c.look-row.result.row c.args.cookie c.args.passed c.show_more.new.out.items c.show_more.result c.args.pair _ c.show_more.ensures.later means c.show_more.ensures.reads) in
    let comes =
    seat_comes g.D.Disk.files g.D.Piece.Piece.Tells g.D.Disk.fault_count g.D.Disk.fuse_count g.A.Arm.fault_count c.args.self.now store k c.args.lane arm c.show_more.new.self
    c.self.view_is stands seat c.show_more.ensures.later in
    rw items (says, comes)

pub returns-clause-passes : goal.returns-clause-passes
returns-clause-passes g c =
    let store : Open g.row.D.Denot g.row.D-Piece.Denot g.row.A.Denot = record {
      settings = c.self.inside.settings;
      directory = c.self.inside.directory;
      volumes = c.self.inside.volumes.items;
      arms = c.self.inside.seats.items;
    } in
    let within : c.args.volume < length c.self.inside.volumes.items =
    let same = ap (λ (st : Open g.row.D.Denot g.row.D-Piece.Denot g.row.A.Denot). (st.settings).volumes) c.self.view_is in omega (arith, c.requires.volume, c.self.invariant.many, same) in
    let volume = c.index-as_slice-volume.result in
    let at : At store.volumes c.args.volume volume = subst (λ (w : Volume g.row.D.Denot g.row.D-Piece.Denot). At store.volumes c.args.volume w) (sym c.index-as_slice-volume.is)
    (subst (λ (vs : List (Volume g.row.D.Denot g.row.D-Piece.Denot)). At vs c.args.volume (slice_index_or c.as_slice.result.now c.args.volume volume)) c.as_slice.ensures.value
    (at_read c.as_slice.result.now c.args.volume volume (let long = ap length c.as_slice.ensures.value in omega (arith, within, long)))) in
    let was = volume_of store c.args.volume volume c.self.invariant at in
    let same = was.settings_are ∙ ap (λ (st : Open g.row.D.Denot g.row.D-Piece.Denot g.row.A.Denot). st.settings) c.self.view_is in
    let inside : c.args.lane < length c.self.inside.seats.items = omega (arith, c.requires.lane, c.self.invariant.lanes) in
    let arm : g.row.A.Denot = slice_index_or c.as_mut_slice.result.now c.args.lane c.index-as_mut_slice-lane.result in
    let seat : At store.arms c.args.lane arm = subst (λ (xs : List (g.row.A.Denot)). At xs c.args.lane arm) c.as_mut_slice.ensures.value
    (at_read c.as_mut_slice.result.now c.args.lane c.index-as_mut_slice-lane.result (let long = ap length c.as_mut_slice.ensures.value in omega (arith, inside, long))) in
    let items =
    with_items_is c.self.inside.seats (slice_set c.as_mut_slice.result.now c.args.lane c.show_more.new.self)
    (length-set c.as_mut_slice.result.now c.args.lane c.show_more.new.self ∙ c.as_mut_slice.ensures.len)
    ∙ ap (λ (xs : List (g.row.A.Denot)). slice_set xs c.args.lane c.show_more.new.self) c.as_mut_slice.ensures.value in
    let long = c.look-row.ensures.long ∙ ap (λ (s : Settings). s.replicas) same in
    let reads =
    counts_at g.A.Arm.fault_count (λ before after. ReadsRow g.D.Piece.Piece.Tells (record { sure = g.A.Arm.is_sure arm; before = before; after = after }) c.args.start
    c.look-row.result.row c.args.cookie c.args.passed c.show_more.new.out.items c.show_more.result)
    (c.args.self.now).arms store.arms c.args.lane arm c.show_more.new.self (ap (λ (st : Open g.row.D.Denot g.row.D-Piece.Denot g.row.A.Denot). st.arms) c.self.view_is) seat
    c.show_more.ensures.reads in
    let after : Counts = record { disks = map g.D.Disk.fault_count (disks_of store); arms = map g.A.Arm.fault_count (slice_set store.arms c.args.lane c.show_more.new.self) } in
    rw items
    (row_read (NeverIn g.D.Disk.Tells g.D.Disk.files g.D.Piece.Piece.Tells g.D.Disk.fault_count g.D.Disk.fuse_count g.A.Arm.fault_count g.A.Arm.is_sure c.args.self.now c.args.lane)
    g.D.Piece.Piece.Tells (g.A.Arm.is_sure arm) (c.args.self.now).settings c.args.lane c.args.volume c.args.start (counts_of g.D.Disk.fault_count g.A.Arm.fault_count c.args.self.now) after
    c.look-row.result.row c.args.pair c.args.cookie long
    (λ place whole.
    let here =
    subst (λ (st : Open g.row.D.Denot g.row.D-Piece.Denot g.row.A.Denot). Stands g.D.Disk.files g.D.Piece.Piece.Tells g.D.Disk.fault_count g.D.Disk.fuse_count
    g.A.Arm.fault_count st whole.1) (sym c.self.view_is) whole.2 in
    let known =
    c.look-row.ensures.known whole.0 (volume_at whole.1 c.args.volume) (volume_stood g.D.Disk.files g.D.Piece.Piece.Tells g.D.Disk.fault_count g.D.Disk.fuse_count
    g.A.Arm.fault_count store whole.1 c.args.volume volume here at) in (
      outcomes_of (c.args.self.now).settings (volume_at whole.1 c.args.volume) c.args.pair,
      row_may_mean g.D.Disk.files g.D.Piece.Piece.Tells volume.replicas c.look-row.result.row (c.args.self.now).settings (volume_at whole.1 c.args.volume) c.args.pair long
          (was.all ∙ ap (λ (s : Settings). s.replicas) same) known.1,
    )) (λ f sure. arm_at g.A.Arm.is_sure g.A.Arm.fault_count (c.args.self.now).arms store.arms c.args.lane arm
    (ap (λ (st : Open g.row.D.Denot g.row.D-Piece.Denot g.row.A.Denot). st.arms) c.self.view_is) seat sure)
    (IsOfPlace g.D.Disk.Tells (c.args.self.now).settings (contents_in g.D.Disk.files store) (store_seen store) c.args.volume c.args.pair)
    (row_had g.D.Disk.Tells g.D.Piece.Piece.Tells (g.A.Arm.is_sure arm) (c.args.self.now).settings (contents_in g.D.Disk.files store) (store_seen store) c.args.volume c.args.pair
    c.args.cookie c.look-row.result.row
    (λ j. ap (λ (l : List (Place g.row.D-Piece.Denot)). sight (place_in l j)) c.look-row.ensures.row
    ∙ sym (ap (λ (seen : Sights). seen c.args.pair j) (photos_at store store refl c.args.volume volume at)))
    (λ tells. open_whole g.D.Piece.Piece.Tells c.look-row.result.row volume.replicas (c.look-row.ensures.long ∙ sym was.all)
    (called_open c.args.self.now store c.args.volume volume c.self.view_is at c.requires.up).each (c.look-row.ensures.whole tells)))
    c.args.passed (subst (λ (st : Open g.row.D.Denot g.row.D-Piece.Denot g.row.A.Denot).
    MayHave (IsOfPlace g.D.Disk.Tells (c.args.self.now).settings (contents_in g.D.Disk.files st) (store_seen st) c.args.volume c.args.pair) c.args.passed) (sym c.self.view_is)
    c.requires.may_stand) c.show_more.new.out.items c.show_more.result reads)

pub returns-clause-arm_counts : goal.returns-clause-arm_counts
returns-clause-arm_counts g c =
    let store : Open g.row.D.Denot g.row.D-Piece.Denot g.row.A.Denot = record {
      settings = c.self.inside.settings;
      directory = c.self.inside.directory;
      volumes = c.self.inside.volumes.items;
      arms = c.self.inside.seats.items;
    } in
    let inside : c.args.lane < length c.self.inside.seats.items = omega (arith, c.requires.lane, c.self.invariant.lanes) in
    let arm : g.row.A.Denot = slice_index_or c.as_mut_slice.result.now c.args.lane c.index-as_mut_slice-lane.result in
    let seat : At store.arms c.args.lane arm = subst (λ (xs : List (g.row.A.Denot)). At xs c.args.lane arm) c.as_mut_slice.ensures.value
    (at_read c.as_mut_slice.result.now c.args.lane c.index-as_mut_slice-lane.result (let long = ap length c.as_mut_slice.ensures.value in omega (arith, inside, long))) in
    let items =
    with_items_is c.self.inside.seats (slice_set c.as_mut_slice.result.now c.args.lane c.show_more.new.self)
    (length-set c.as_mut_slice.result.now c.args.lane c.show_more.new.self ∙ c.as_mut_slice.ensures.len)
    ∙ ap (λ (xs : List (g.row.A.Denot)). slice_set xs c.args.lane c.show_more.new.self) c.as_mut_slice.ensures.value in
    rw items
    (subst (λ (st : Open g.row.D.Denot g.row.D-Piece.Denot g.row.A.Denot). NoneFalls (map g.A.Arm.fault_count st.arms)
    (map g.A.Arm.fault_count (slice_set store.arms c.args.lane c.show_more.new.self))) c.self.view_is
    (later_set g.A.Arm.fault_count store.arms c.args.lane arm c.show_more.new.self seat c.show_more.ensures.later))

pub invariant_of-self : goal.invariant_of-self
invariant_of-self g c =
    let items =
    with_items_is c.self.inside.seats (slice_set c.as_mut_slice.result.now c.args.lane c.show_more.new.self)
    (length-set c.as_mut_slice.result.now c.args.lane c.show_more.new.self ∙ c.as_mut_slice.ensures.len)
    ∙ ap (λ (xs : List (g.row.A.Denot)). slice_set xs c.args.lane c.show_more.new.self) c.as_mut_slice.ensures.value in
    rw items (record {
      built = c.self.invariant.built;
      directory = c.self.invariant.directory;
      many = c.self.invariant.many;
      volumes = c.self.invariant.volumes;
      lanes = length-set c.self.inside.seats.items c.args.lane c.show_more.new.self ∙ c.self.invariant.lanes;
    })

pub returns-clause-sure_arms : goal.returns-clause-sure_arms
returns-clause-sure_arms g c =
    let store : Open g.row.D.Denot g.row.D-Piece.Denot g.row.A.Denot = record {
      settings = c.self.inside.settings;
      directory = c.self.inside.directory;
      volumes = c.self.inside.volumes.items;
      arms = c.self.inside.seats.items;
    } in
    let inside : c.args.lane < length c.self.inside.seats.items = omega (arith, c.requires.lane, c.self.invariant.lanes) in
    let arm : g.row.A.Denot = slice_index_or c.as_mut_slice.result.now c.args.lane c.index-as_mut_slice-lane.result in
    let seat : At store.arms c.args.lane arm = subst (λ (xs : List (g.row.A.Denot)). At xs c.args.lane arm) c.as_mut_slice.ensures.value
    (at_read c.as_mut_slice.result.now c.args.lane c.index-as_mut_slice-lane.result (let long = ap length c.as_mut_slice.ensures.value in omega (arith, inside, long))) in
    let items =
    with_items_is c.self.inside.seats (slice_set c.as_mut_slice.result.now c.args.lane c.show_more.new.self)
    (length-set c.as_mut_slice.result.now c.args.lane c.show_more.new.self ∙ c.as_mut_slice.ensures.len)
    ∙ ap (λ (xs : List (g.row.A.Denot)). slice_set xs c.args.lane c.show_more.new.self) c.as_mut_slice.ensures.value in
    rw items (used_sure g.A.Arm.is_sure g.A.Arm.fault_count (c.args.self.now).arms store.arms c.args.lane arm c.show_more.new.self
    (ap (λ (st : Open g.row.D.Denot g.row.D-Piece.Denot g.row.A.Denot). st.arms) c.self.view_is) seat
    c.show_more.ensures.stays_sure)

pub returns-clause-stops : goal.returns-clause-stops
returns-clause-stops g c =
    let store : Open g.row.D.Denot g.row.D-Piece.Denot g.row.A.Denot = record {
      settings = c.self.inside.settings;
      directory = c.self.inside.directory;
      volumes = c.self.inside.volumes.items;
      arms = c.self.inside.seats.items;
    } in
    let within : c.args.volume < length c.self.inside.volumes.items =
    let same = ap (λ (st : Open g.row.D.Denot g.row.D-Piece.Denot g.row.A.Denot). (st.settings).volumes) c.self.view_is in omega (arith, c.requires.volume, c.self.invariant.many, same) in
    let volume = c.index-as_slice-volume.result in
    let at : At store.volumes c.args.volume volume = subst (λ (w : Volume g.row.D.Denot g.row.D-Piece.Denot). At store.volumes c.args.volume w) (sym c.index-as_slice-volume.is)
    (subst (λ (vs : List (Volume g.row.D.Denot g.row.D-Piece.Denot)). At vs c.args.volume (slice_index_or c.as_slice.result.now c.args.volume volume)) c.as_slice.ensures.value
    (at_read c.as_slice.result.now c.args.volume volume (let long = ap length c.as_slice.ensures.value in omega (arith, within, long)))) in
    let there : At (c.args.self.now).volumes c.args.volume volume = subst (λ (st : Open g.row.D.Denot g.row.D-Piece.Denot g.row.A.Denot). At st.volumes c.args.volume volume) c.self.view_is at in
    row_stops g.D.Piece.Piece.Tells _ c.args.start c.look-row.result.row c.args.cookie c.args.passed c.show_more.new.out.items c.show_more.result c.args.self.now c.args.volume
    volume c.args.pair there c.look-row.ensures.row c.show_more.ensures.reads

pub returns-clause-most : goal.returns-clause-most
returns-clause-most g c =
    let store : Open g.row.D.Denot g.row.D-Piece.Denot g.row.A.Denot = record {
      settings = c.self.inside.settings;
      directory = c.self.inside.directory;
      volumes = c.self.inside.volumes.items;
      arms = c.self.inside.seats.items;
    } in
    let inside : c.args.lane < length c.self.inside.seats.items = omega (arith, c.requires.lane, c.self.invariant.lanes) in
    let arm : g.row.A.Denot = slice_index_or c.as_mut_slice.result.now c.args.lane c.index-as_mut_slice-lane.result in
    let seat : At store.arms c.args.lane arm = subst (λ (xs : List (g.row.A.Denot)). At xs c.args.lane arm) c.as_mut_slice.ensures.value
    (at_read c.as_mut_slice.result.now c.args.lane c.index-as_mut_slice-lane.result (let long = ap length c.as_mut_slice.ensures.value in omega (arith, inside, long))) in
    let items =
    with_items_is c.self.inside.seats (slice_set c.as_mut_slice.result.now c.args.lane c.show_more.new.self)
    (length-set c.as_mut_slice.result.now c.args.lane c.show_more.new.self ∙ c.as_mut_slice.ensures.len)
    ∙ ap (λ (xs : List (g.row.A.Denot)). slice_set xs c.args.lane c.show_more.new.self) c.as_mut_slice.ensures.value in
    rw items
    (counts_at g.A.Arm.fault_count (λ before after. (after ≡ before) ⊎ (after < 2 ^ 64)) (c.args.self.now).arms store.arms c.args.lane arm c.show_more.new.self
    (ap (λ (st : Open g.row.D.Denot g.row.D-Piece.Denot g.row.A.Denot). st.arms) c.self.view_is) seat c.show_more.ensures.most)

pub returns-clause-volumes : goal.returns-clause-volumes
returns-clause-volumes g c = ap (λ (st : Open g.row.D.Denot g.row.D-Piece.Denot g.row.A.Denot). st.volumes) c.self.view_is

pub returns-clause-seen : goal.returns-clause-seen
returns-clause-seen g c = ap (λ (st : Open g.row.D.Denot g.row.D-Piece.Denot g.row.A.Denot). store_seen st) c.self.view_is

pub returns-clause-sees : goal.returns-clause-sees
returns-clause-sees g c =
    let store : Open g.row.D.Denot g.row.D-Piece.Denot g.row.A.Denot = record {
      settings = c.self.inside.settings;
      directory = c.self.inside.directory;
      volumes = c.self.inside.volumes.items;
      arms = c.self.inside.seats.items;
    } in
    let within : c.args.volume < length c.self.inside.volumes.items =
    let same = ap (λ (st : Open g.row.D.Denot g.row.D-Piece.Denot g.row.A.Denot). (st.settings).volumes) c.self.view_is in omega (arith, c.requires.volume, c.self.invariant.many, same) in
    let volume = c.index-as_slice-volume.result in
    let at : At store.volumes c.args.volume volume = subst (λ (w : Volume g.row.D.Denot g.row.D-Piece.Denot). At store.volumes c.args.volume w) (sym c.index-as_slice-volume.is)
    (subst (λ (vs : List (Volume g.row.D.Denot g.row.D-Piece.Denot)). At vs c.args.volume (slice_index_or c.as_slice.result.now c.args.volume volume)) c.as_slice.ensures.value
    (at_read c.as_slice.result.now c.args.volume volume (let long = ap length c.as_slice.ensures.value in omega (arith, within, long)))) in
    sees_in c.look-row.result.row (row_at volume.rows c.args.pair) ((store_seen store).places c.args.volume c.args.pair) c.show_more.result c.look-row.ensures.row
    (λ j. ap (λ (seen : Sights). seen c.args.pair j) (photos_at store store refl c.args.volume volume at))
    (row_sees g.D.Piece.Piece.Tells _ c.args.start c.look-row.result.row c.args.cookie c.args.passed c.show_more.new.out.items c.show_more.result c.show_more.ensures.reads)

pub returns-clause-up : goal.returns-clause-up
returns-clause-up g c =
    let up : IsUp c.args.self.now = c.requires.up in
    let store : Open g.row.D.Denot g.row.D-Piece.Denot g.row.A.Denot = record {
      settings = c.self.inside.settings;
      directory = c.self.inside.directory;
      volumes = c.self.inside.volumes.items;
      arms = c.self.inside.seats.items;
    } in
    let here : IsUp store = subst (λ (st : Open g.row.D.Denot g.row.D-Piece.Denot g.row.A.Denot). IsUp st) (sym c.self.view_is) up in
    record { directory = here.directory; volumes = here.volumes }
