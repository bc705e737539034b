use Rattle.std.proofs.Common.{◌≡◌, ◌<◌, ℕ, List, ap, sym, length, subst, ◌∙◌, arith}
use Rattle.std.specs.Prelude.{Err, slice_index_or, slice_set}
use Rattle.std.proofs.lemmas.List.{with_items_is}
use borrow.Author.Rules.{scaled_Fits}
use Rattle.hay_map.specs.declared.place.Place.{Place}
use Rattle.hay_map.specs.Places.{place_in}
use Rattle.hay_map.specs.Rows.{row_at}
use Rattle.hay_compact.specs.Finishing.{IsSeen}
use Rattle.hay_logical.specs.declared.fault.LogicalFault.{LogicalFault}
use Rattle.hay_logical.specs.declared.fault.LogicalFault.TheVariants as refusal
use Rattle.hay_logical.specs.Fits.{At}
use Rattle.hay_logical.specs.ReplicaCalls.{IsSeenBy}
use Rattle.hay_logical.specs.Volumes.{Volume}
use Rattle.hay_logical.proofs.Lists.{at_read}
use Rattle.hay_needle.specs.declared.needle.Pair.{Pair}
use Rattle.hay_needle.specs.declared.settings.Settings.{Settings}
use Rattle.hay_legal.specs.Known.{volume_at}
use Rattle.hay_cluster.specs.State.{Stands}
use Rattle.hay_cluster.specs.Store.{Open, contents_in}
use Rattle.hay_cluster.proofs.Calls.{called_open, called_up}
use Rattle.hay_cluster.proofs.Lists.{length-set}
use Rattle.hay_cluster.proofs.Moves.{Called, called_fuses, called_later, called_shape, volume_of, volume_stood, with_one}
use Rattle.hay_cluster.proofs.Showing.{seen_by_in, seen_in, seen_there, sight_comes, sight_fault, sight_others}
use Rattle.hay_cluster.specs.Leaving.{AnySlot, KeepsIn}
use Rattle.hay_cluster.specs.Reads.{AwaitsFor}
use Rattle.hay_cluster.proofs.Leaving.{called_keeps}
use Rattle.hay_cluster.proofs.Seeing.{moves_none, volume_moves}
use Rattle.hay_cluster.proofs.Sighting.{photos_at, photos_now, volume_kept_photos, volume_photos}
use Rattle.hay_logical.specs.Sights.{KeepsSights, SeeRefusedSights, SeesPair, Sights, sights_of}
use Rattle.hay_cluster.proofs.Needling.{lacks_on, told_as, told_kept}
use Rattle.hay_cluster.specs.Seen.{store_seen}
use Rattle.hay_cluster.proofs.cluster.Cluster.see_in.Goals as goal
use Rattle.hay_cluster.proofs.cluster.Cluster.see_in.Goals.{in-Ok, in-Err}

refused_keeps : (pair : Pair) (replica : ℕ) (old new : Sights) (fault : LogicalFault) → SeeRefusedSights pair replica old new fault → KeepsSights old new
refused_keeps pair replica old new (refusal.Failed m count) h = h.0
refused_keeps pair replica old new (refusal.Damaged m place) h = h.0
refused_keeps pair replica old new refusal.NoMemory h = h.0
refused_keeps pair replica old new (refusal.ReadOnly m) h = absurd h
refused_keeps pair replica old new (refusal.Full m end need capacity) h = absurd h
refused_keeps pair replica old new (refusal.Gone front) h = absurd h
refused_keeps pair replica old new (refusal.Busy m goal) h = absurd h
refused_keeps pair replica old new (refusal.Worn m) h = absurd h
refused_keeps pair replica old new refusal.Idle h = absurd h

refused_awaits : (pair : Pair) (replica : ℕ) (old new : Sights) (fault : LogicalFault) → SeeRefusedSights pair replica old new fault → AwaitsFor fault (old pair replica)
refused_awaits pair replica old new (refusal.Failed m count) h = h.1
refused_awaits pair replica old new (refusal.Damaged m place) h = h.1
refused_awaits pair replica old new refusal.NoMemory h = h.1
refused_awaits pair replica old new (refusal.ReadOnly m) h = absurd h
refused_awaits pair replica old new (refusal.Full m end need capacity) h = absurd h
refused_awaits pair replica old new (refusal.Gone front) h = absurd h
refused_awaits pair replica old new (refusal.Busy m goal) h = absurd h
refused_awaits pair replica old new (refusal.Worn m) h = absurd h
refused_awaits pair replica old new refusal.Idle h = absurd h

pub offset_bounds-as_mut_slice-volume : goal.offset_bounds-as_mut_slice-volume
offset_bounds-as_mut_slice-volume g c =
    let within : c.args.volume < length c.self.inside.volumes.items =
    let same = ap (λ (st : Open g.row.D.Denot g.row.D-Piece.Denot g.row.A.Denot). (st.settings).volumes) c.self.view_is in omega (arith, c.requires.volume, c.self.invariant.many, same) in
    let long = ap length c.as_mut_slice.ensures.value in
    scaled_Fits c.args.volume (length c.as_mut_slice.result.now) _ (omega (arith, within, long)) c.as_mut_slice.type_inv.1

pub see-requires : goal.see-requires
see-requires g c =
    let store : Open g.row.D.Denot g.row.D-Piece.Denot g.row.A.Denot = record {
      settings = c.self.inside.settings;
      directory = c.self.inside.directory;
      volumes = c.self.inside.volumes.items;
      arms = c.self.inside.seats.items;
    } in
    let within : c.args.volume < length c.self.inside.volumes.items =
    let same = ap (λ (st : Open g.row.D.Denot g.row.D-Piece.Denot g.row.A.Denot). (st.settings).volumes) c.self.view_is in omega (arith, c.requires.volume, c.self.invariant.many, same) in
    let volume : Volume g.row.D.Denot g.row.D-Piece.Denot = slice_index_or c.as_mut_slice.result.now c.args.volume c.index-as_mut_slice-volume.result in
    let at : At store.volumes c.args.volume volume = subst (λ (vs : List (Volume g.row.D.Denot g.row.D-Piece.Denot)). At vs c.args.volume volume) c.as_mut_slice.ensures.value
    (at_read c.as_mut_slice.result.now c.args.volume c.index-as_mut_slice-volume.result (let long = ap length c.as_mut_slice.ensures.value in omega (arith, within, long))) in
    let was = volume_of store c.args.volume volume c.self.invariant at in
    let same = was.settings_are ∙ ap (λ (st : Open g.row.D.Denot g.row.D-Piece.Denot g.row.A.Denot). st.settings) c.self.view_is in
    record {
      within = subst (λ (t : Settings). c.args.replica < t.replicas) (sym same) c.requires.replica;
      «open» = called_open c.args.self.now store c.args.volume volume c.self.view_is at c.requires.up;
    }

pub invariant_of-self : goal.invariant_of-self
invariant_of-self g c =
    let store : Open g.row.D.Denot g.row.D-Piece.Denot g.row.A.Denot = record {
      settings = c.self.inside.settings;
      directory = c.self.inside.directory;
      volumes = c.self.inside.volumes.items;
      arms = c.self.inside.seats.items;
    } in
    let within : c.args.volume < length c.self.inside.volumes.items =
    let same = ap (λ (st : Open g.row.D.Denot g.row.D-Piece.Denot g.row.A.Denot). (st.settings).volumes) c.self.view_is in omega (arith, c.requires.volume, c.self.invariant.many, same) in
    let volume : Volume g.row.D.Denot g.row.D-Piece.Denot = slice_index_or c.as_mut_slice.result.now c.args.volume c.index-as_mut_slice-volume.result in
    let at : At store.volumes c.args.volume volume = subst (λ (vs : List (Volume g.row.D.Denot g.row.D-Piece.Denot)). At vs c.args.volume volume) c.as_mut_slice.ensures.value
    (at_read c.as_mut_slice.result.now c.args.volume c.index-as_mut_slice-volume.result (let long = ap length c.as_mut_slice.ensures.value in omega (arith, within, long))) in
    let items =
    with_items_is c.self.inside.volumes (slice_set c.as_mut_slice.result.now c.args.volume c.see.new.self)
    (length-set c.as_mut_slice.result.now c.args.volume c.see.new.self ∙ c.as_mut_slice.ensures.len)
    ∙ ap (λ (vs : List (Volume g.row.D.Denot g.row.D-Piece.Denot)). slice_set vs c.args.volume c.see.new.self) c.as_mut_slice.ensures.value in
    let called : Called g.D.Disk.fault_count g.D.Disk.fuse_count store c.args.volume volume c.see.new.self = record { at = at; same = c.see.ensures.same; counts = c.see.ensures.counts } in
    rw items (called_shape g.D.Disk.fault_count g.D.Disk.fuse_count store c.args.volume volume c.see.new.self c.self.invariant called)

pub returns-clause-stands : goal.returns-clause-stands
returns-clause-stands g c = λ tells k stands.
    let store : Open g.row.D.Denot g.row.D-Piece.Denot g.row.A.Denot = record {
      settings = c.self.inside.settings;
      directory = c.self.inside.directory;
      volumes = c.self.inside.volumes.items;
      arms = c.self.inside.seats.items;
    } in
    let within : c.args.volume < length c.self.inside.volumes.items =
    let same = ap (λ (st : Open g.row.D.Denot g.row.D-Piece.Denot g.row.A.Denot). (st.settings).volumes) c.self.view_is in omega (arith, c.requires.volume, c.self.invariant.many, same) in
    let volume : Volume g.row.D.Denot g.row.D-Piece.Denot = slice_index_or c.as_mut_slice.result.now c.args.volume c.index-as_mut_slice-volume.result in
    let at : At store.volumes c.args.volume volume = subst (λ (vs : List (Volume g.row.D.Denot g.row.D-Piece.Denot)). At vs c.args.volume volume) c.as_mut_slice.ensures.value
    (at_read c.as_mut_slice.result.now c.args.volume c.index-as_mut_slice-volume.result (let long = ap length c.as_mut_slice.ensures.value in omega (arith, within, long))) in
    let items =
    with_items_is c.self.inside.volumes (slice_set c.as_mut_slice.result.now c.args.volume c.see.new.self)
    (length-set c.as_mut_slice.result.now c.args.volume c.see.new.self ∙ c.as_mut_slice.ensures.len)
    ∙ ap (λ (vs : List (Volume g.row.D.Denot g.row.D-Piece.Denot)). slice_set vs c.args.volume c.see.new.self) c.as_mut_slice.ensures.value in
    let called : Called g.D.Disk.fault_count g.D.Disk.fuse_count store c.args.volume volume c.see.new.self = record { at = at; same = c.see.ensures.same; counts = c.see.ensures.counts } in
    rw items
    (sight_comes g.D.Disk.files g.D.Piece.Piece.Tells g.D.Disk.fault_count g.D.Disk.fuse_count g.A.Arm.fault_count c.args.self.now store k c.args.volume volume c.see.new.self
    c.self.view_is called c.requires.volume stands
    (λ known stood. c.see.ensures.stands tells known stood))

pub returns-clause-undamaged : goal.returns-clause-undamaged
returns-clause-undamaged g c = λ whole m at e.
    let store : Open g.row.D.Denot g.row.D-Piece.Denot g.row.A.Denot = record {
      settings = c.self.inside.settings;
      directory = c.self.inside.directory;
      volumes = c.self.inside.volumes.items;
      arms = c.self.inside.seats.items;
    } in
    let within : c.args.volume < length c.self.inside.volumes.items =
    let same = ap (λ (st : Open g.row.D.Denot g.row.D-Piece.Denot g.row.A.Denot). (st.settings).volumes) c.self.view_is in omega (arith, c.requires.volume, c.self.invariant.many, same) in
    let volume : Volume g.row.D.Denot g.row.D-Piece.Denot = slice_index_or c.as_mut_slice.result.now c.args.volume c.index-as_mut_slice-volume.result in
    let there : At store.volumes c.args.volume volume = subst (λ (vs : List (Volume g.row.D.Denot g.row.D-Piece.Denot)). At vs c.args.volume volume) c.as_mut_slice.ensures.value
    (at_read c.as_mut_slice.result.now c.args.volume c.index-as_mut_slice-volume.result (let long = ap length c.as_mut_slice.ensures.value in omega (arith, within, long))) in
    let items =
    with_items_is c.self.inside.volumes (slice_set c.as_mut_slice.result.now c.args.volume c.see.new.self)
    (length-set c.as_mut_slice.result.now c.args.volume c.see.new.self ∙ c.as_mut_slice.ensures.len)
    ∙ ap (λ (vs : List (Volume g.row.D.Denot g.row.D-Piece.Denot)). slice_set vs c.args.volume c.see.new.self) c.as_mut_slice.ensures.value in
    let called : Called g.D.Disk.fault_count g.D.Disk.fuse_count store c.args.volume volume c.see.new.self = record { at = there; same = c.see.ensures.same; counts = c.see.ensures.counts } in
    let here =
    subst (λ (st : Open g.row.D.Denot g.row.D-Piece.Denot g.row.A.Denot). Stands g.D.Disk.files g.D.Piece.Piece.Tells g.D.Disk.fault_count g.D.Disk.fuse_count
    g.A.Arm.fault_count st whole.1) (sym c.self.view_is) whole.2 in
    let stood = volume_stood g.D.Disk.files g.D.Piece.Piece.Tells g.D.Disk.fault_count g.D.Disk.fuse_count g.A.Arm.fault_count store whole.1 c.args.volume volume here there in
    elim c.match-see.branch [
      | in-Ok w ↦ let wrong = sym w.result-is ∙ e in cc
      | in-Err w ↦ c.see.ensures.undamaged whole.0 (volume_at whole.1 c.args.volume) stood m at (let was = w.in-Err.is in let is = w.result-is in cc)
    ]

pub returns-clause-seen : goal.returns-clause-seen
returns-clause-seen g c =
    let store : Open g.row.D.Denot g.row.D-Piece.Denot g.row.A.Denot = record {
      settings = c.self.inside.settings;
      directory = c.self.inside.directory;
      volumes = c.self.inside.volumes.items;
      arms = c.self.inside.seats.items;
    } in
    let within : c.args.volume < length c.self.inside.volumes.items =
    let same = ap (λ (st : Open g.row.D.Denot g.row.D-Piece.Denot g.row.A.Denot). (st.settings).volumes) c.self.view_is in omega (arith, c.requires.volume, c.self.invariant.many, same) in
    let volume : Volume g.row.D.Denot g.row.D-Piece.Denot = slice_index_or c.as_mut_slice.result.now c.args.volume c.index-as_mut_slice-volume.result in
    let at : At store.volumes c.args.volume volume = subst (λ (vs : List (Volume g.row.D.Denot g.row.D-Piece.Denot)). At vs c.args.volume volume) c.as_mut_slice.ensures.value
    (at_read c.as_mut_slice.result.now c.args.volume c.index-as_mut_slice-volume.result (let long = ap length c.as_mut_slice.ensures.value in omega (arith, within, long))) in
    let items =
    with_items_is c.self.inside.volumes (slice_set c.as_mut_slice.result.now c.args.volume c.see.new.self)
    (length-set c.as_mut_slice.result.now c.args.volume c.see.new.self ∙ c.as_mut_slice.ensures.len)
    ∙ ap (λ (vs : List (Volume g.row.D.Denot g.row.D-Piece.Denot)). slice_set vs c.args.volume c.see.new.self) c.as_mut_slice.ensures.value in
    let called : Called g.D.Disk.fault_count g.D.Disk.fuse_count store c.args.volume volume c.see.new.self = record { at = at; same = c.see.ensures.same; counts = c.see.ensures.counts } in
    elim c.match-see.branch [
      | in-Ok w ↦
          let seen : IsSeen (place_in (row_at c.see.new.self.rows c.args.pair) c.args.replica) =
          subst (λ (l : List (Place g.row.D-Piece.Denot)). IsSeen (place_in l c.args.replica)) w.in-Ok.ensures.answered.1 w.in-Ok.ensures.seen in
          rw w.result-is (rw items (seen_in store c.args.volume volume c.see.new.self c.args.pair c.args.replica at seen))
      | in-Err w ↦ rw w.result-is tt
    ]

pub returns-clause-causes : goal.returns-clause-causes
returns-clause-causes g c =
    let store : Open g.row.D.Denot g.row.D-Piece.Denot g.row.A.Denot = record {
      settings = c.self.inside.settings;
      directory = c.self.inside.directory;
      volumes = c.self.inside.volumes.items;
      arms = c.self.inside.seats.items;
    } in
    let within : c.args.volume < length c.self.inside.volumes.items =
    let same = ap (λ (st : Open g.row.D.Denot g.row.D-Piece.Denot g.row.A.Denot). (st.settings).volumes) c.self.view_is in omega (arith, c.requires.volume, c.self.invariant.many, same) in
    let volume : Volume g.row.D.Denot g.row.D-Piece.Denot = slice_index_or c.as_mut_slice.result.now c.args.volume c.index-as_mut_slice-volume.result in
    let at : At store.volumes c.args.volume volume = subst (λ (vs : List (Volume g.row.D.Denot g.row.D-Piece.Denot)). At vs c.args.volume volume) c.as_mut_slice.ensures.value
    (at_read c.as_mut_slice.result.now c.args.volume c.index-as_mut_slice-volume.result (let long = ap length c.as_mut_slice.ensures.value in omega (arith, within, long))) in
    let items =
    with_items_is c.self.inside.volumes (slice_set c.as_mut_slice.result.now c.args.volume c.see.new.self)
    (length-set c.as_mut_slice.result.now c.args.volume c.see.new.self ∙ c.as_mut_slice.ensures.len)
    ∙ ap (λ (vs : List (Volume g.row.D.Denot g.row.D-Piece.Denot)). slice_set vs c.args.volume c.see.new.self) c.as_mut_slice.ensures.value in
    let called : Called g.D.Disk.fault_count g.D.Disk.fuse_count store c.args.volume volume c.see.new.self = record { at = at; same = c.see.ensures.same; counts = c.see.ensures.counts } in
    elim c.match-see.branch [
      | in-Ok w ↦ rw w.result-is tt
      | in-Err w ↦
          rw w.result-is
          (rw items
          (sight_fault g.D.Disk.fault_count g.D.Disk.fuse_count c.args.self.now store c.args.volume c.args.replica volume c.see.new.self c.self.view_is c.self.invariant called
          c.requires.replica w.in-Err.fault w.in-Err.ensures.causes
          (λ m count e. c.see.ensures.machine m count (w.in-Err.is ∙ ap (λ (f : LogicalFault). Err f) e))))
    ]

pub returns-clause-others : goal.returns-clause-others
returns-clause-others g c =
    let store : Open g.row.D.Denot g.row.D-Piece.Denot g.row.A.Denot = record {
      settings = c.self.inside.settings;
      directory = c.self.inside.directory;
      volumes = c.self.inside.volumes.items;
      arms = c.self.inside.seats.items;
    } in
    let within : c.args.volume < length c.self.inside.volumes.items =
    let same = ap (λ (st : Open g.row.D.Denot g.row.D-Piece.Denot g.row.A.Denot). (st.settings).volumes) c.self.view_is in omega (arith, c.requires.volume, c.self.invariant.many, same) in
    let volume : Volume g.row.D.Denot g.row.D-Piece.Denot = slice_index_or c.as_mut_slice.result.now c.args.volume c.index-as_mut_slice-volume.result in
    let at : At store.volumes c.args.volume volume = subst (λ (vs : List (Volume g.row.D.Denot g.row.D-Piece.Denot)). At vs c.args.volume volume) c.as_mut_slice.ensures.value
    (at_read c.as_mut_slice.result.now c.args.volume c.index-as_mut_slice-volume.result (let long = ap length c.as_mut_slice.ensures.value in omega (arith, within, long))) in
    let items =
    with_items_is c.self.inside.volumes (slice_set c.as_mut_slice.result.now c.args.volume c.see.new.self)
    (length-set c.as_mut_slice.result.now c.args.volume c.see.new.self ∙ c.as_mut_slice.ensures.len)
    ∙ ap (λ (vs : List (Volume g.row.D.Denot g.row.D-Piece.Denot)). slice_set vs c.args.volume c.see.new.self) c.as_mut_slice.ensures.value in
    let called : Called g.D.Disk.fault_count g.D.Disk.fuse_count store c.args.volume volume c.see.new.self = record { at = at; same = c.see.ensures.same; counts = c.see.ensures.counts } in
    rw items
    (sight_others g.D.Disk.fault_count g.D.Disk.fuse_count c.args.self.now store c.args.volume c.args.replica volume c.see.new.self c.self.view_is c.self.invariant called
    c.requires.replica c.see.ensures.others)

pub returns-clause-counts : goal.returns-clause-counts
returns-clause-counts g c =
    let store : Open g.row.D.Denot g.row.D-Piece.Denot g.row.A.Denot = record {
      settings = c.self.inside.settings;
      directory = c.self.inside.directory;
      volumes = c.self.inside.volumes.items;
      arms = c.self.inside.seats.items;
    } in
    let within : c.args.volume < length c.self.inside.volumes.items =
    let same = ap (λ (st : Open g.row.D.Denot g.row.D-Piece.Denot g.row.A.Denot). (st.settings).volumes) c.self.view_is in omega (arith, c.requires.volume, c.self.invariant.many, same) in
    let volume : Volume g.row.D.Denot g.row.D-Piece.Denot = slice_index_or c.as_mut_slice.result.now c.args.volume c.index-as_mut_slice-volume.result in
    let at : At store.volumes c.args.volume volume = subst (λ (vs : List (Volume g.row.D.Denot g.row.D-Piece.Denot)). At vs c.args.volume volume) c.as_mut_slice.ensures.value
    (at_read c.as_mut_slice.result.now c.args.volume c.index-as_mut_slice-volume.result (let long = ap length c.as_mut_slice.ensures.value in omega (arith, within, long))) in
    let items =
    with_items_is c.self.inside.volumes (slice_set c.as_mut_slice.result.now c.args.volume c.see.new.self)
    (length-set c.as_mut_slice.result.now c.args.volume c.see.new.self ∙ c.as_mut_slice.ensures.len)
    ∙ ap (λ (vs : List (Volume g.row.D.Denot g.row.D-Piece.Denot)). slice_set vs c.args.volume c.see.new.self) c.as_mut_slice.ensures.value in
    let called : Called g.D.Disk.fault_count g.D.Disk.fuse_count store c.args.volume volume c.see.new.self = record { at = at; same = c.see.ensures.same; counts = c.see.ensures.counts } in
    rw items (called_later g.D.Disk.fault_count g.D.Disk.fuse_count c.args.self.now store c.args.volume volume c.see.new.self c.self.view_is called)

pub returns-clause-up : goal.returns-clause-up
returns-clause-up g c =
    let store : Open g.row.D.Denot g.row.D-Piece.Denot g.row.A.Denot = record {
      settings = c.self.inside.settings;
      directory = c.self.inside.directory;
      volumes = c.self.inside.volumes.items;
      arms = c.self.inside.seats.items;
    } in
    let items =
    with_items_is c.self.inside.volumes (slice_set c.as_mut_slice.result.now c.args.volume c.see.new.self)
    (length-set c.as_mut_slice.result.now c.args.volume c.see.new.self ∙ c.as_mut_slice.ensures.len)
    ∙ ap (λ (vs : List (Volume g.row.D.Denot g.row.D-Piece.Denot)). slice_set vs c.args.volume c.see.new.self) c.as_mut_slice.ensures.value in
    rw items (called_up c.args.self.now store c.args.volume c.see.new.self c.self.view_is c.requires.up c.see.ensures.«open»)

pub returns-clause-fuses : goal.returns-clause-fuses
returns-clause-fuses g c =
    let store : Open g.row.D.Denot g.row.D-Piece.Denot g.row.A.Denot = record {
      settings = c.self.inside.settings;
      directory = c.self.inside.directory;
      volumes = c.self.inside.volumes.items;
      arms = c.self.inside.seats.items;
    } in
    let within : c.args.volume < length c.self.inside.volumes.items =
    let same = ap (λ (st : Open g.row.D.Denot g.row.D-Piece.Denot g.row.A.Denot). (st.settings).volumes) c.self.view_is in omega (arith, c.requires.volume, c.self.invariant.many, same) in
    let volume : Volume g.row.D.Denot g.row.D-Piece.Denot = slice_index_or c.as_mut_slice.result.now c.args.volume c.index-as_mut_slice-volume.result in
    let at : At store.volumes c.args.volume volume = subst (λ (vs : List (Volume g.row.D.Denot g.row.D-Piece.Denot)). At vs c.args.volume volume) c.as_mut_slice.ensures.value
    (at_read c.as_mut_slice.result.now c.args.volume c.index-as_mut_slice-volume.result (let long = ap length c.as_mut_slice.ensures.value in omega (arith, within, long))) in
    let items =
    with_items_is c.self.inside.volumes (slice_set c.as_mut_slice.result.now c.args.volume c.see.new.self)
    (length-set c.as_mut_slice.result.now c.args.volume c.see.new.self ∙ c.as_mut_slice.ensures.len)
    ∙ ap (λ (vs : List (Volume g.row.D.Denot g.row.D-Piece.Denot)). slice_set vs c.args.volume c.see.new.self) c.as_mut_slice.ensures.value in
    let called : Called g.D.Disk.fault_count g.D.Disk.fuse_count store c.args.volume volume c.see.new.self = record { at = at; same = c.see.ensures.same; counts = c.see.ensures.counts } in
    rw items (called_fuses g.D.Disk.fault_count g.D.Disk.fuse_count c.args.self.now store c.args.volume volume c.see.new.self c.self.view_is called)

pub returns-clause-needle : goal.returns-clause-needle
returns-clause-needle g c = λ unseen.
    let store : Open g.row.D.Denot g.row.D-Piece.Denot g.row.A.Denot = record {
      settings = c.self.inside.settings;
      directory = c.self.inside.directory;
      volumes = c.self.inside.volumes.items;
      arms = c.self.inside.seats.items;
    } in
    let within : c.args.volume < length c.self.inside.volumes.items =
    let same = ap (λ (st : Open g.row.D.Denot g.row.D-Piece.Denot g.row.A.Denot). (st.settings).volumes) c.self.view_is in omega (arith, c.requires.volume, c.self.invariant.many, same) in
    let volume : Volume g.row.D.Denot g.row.D-Piece.Denot = slice_index_or c.as_mut_slice.result.now c.args.volume c.index-as_mut_slice-volume.result in
    let at : At store.volumes c.args.volume volume = subst (λ (vs : List (Volume g.row.D.Denot g.row.D-Piece.Denot)). At vs c.args.volume volume) c.as_mut_slice.ensures.value
    (at_read c.as_mut_slice.result.now c.args.volume c.index-as_mut_slice-volume.result (let long = ap length c.as_mut_slice.ensures.value in omega (arith, within, long))) in
    let items =
    with_items_is c.self.inside.volumes (slice_set c.as_mut_slice.result.now c.args.volume c.see.new.self)
    (length-set c.as_mut_slice.result.now c.args.volume c.see.new.self ∙ c.as_mut_slice.ensures.len)
    ∙ ap (λ (vs : List (Volume g.row.D.Denot g.row.D-Piece.Denot)). slice_set vs c.args.volume c.see.new.self) c.as_mut_slice.ensures.value in
    elim c.match-see.branch [
      | in-Ok w ↦
          let by : IsSeenBy g.D.Disk.Tells g.D.Piece.Piece.Tells c.see.new.out.items (place_in (row_at c.see.new.self.rows c.args.pair) c.args.replica) =
          subst (λ (l : List (Place g.row.D-Piece.Denot)). IsSeenBy g.D.Disk.Tells g.D.Piece.Piece.Tells c.see.new.out.items (place_in l c.args.replica)) w.in-Ok.ensures.answered.1
          (w.in-Ok.ensures.needle (λ seen. unseen (seen_there c.args.self.now store c.args.volume volume c.args.pair c.args.replica c.self.view_is at seen))) in
          rw w.result-is (rw items (seen_by_in g.D.Disk.Tells g.D.Piece.Piece.Tells store c.args.volume volume c.see.new.self c.args.pair c.args.replica c.see.new.out.items at by))
      | in-Err w ↦ rw w.result-is tt
    ]

pub returns-clause-contents : goal.returns-clause-contents
returns-clause-contents g c = λ tells.
    let store : Open g.row.D.Denot g.row.D-Piece.Denot g.row.A.Denot = record {
      settings = c.self.inside.settings;
      directory = c.self.inside.directory;
      volumes = c.self.inside.volumes.items;
      arms = c.self.inside.seats.items;
    } in
    let within : c.args.volume < length c.self.inside.volumes.items =
    let same = ap (λ (st : Open g.row.D.Denot g.row.D-Piece.Denot g.row.A.Denot). (st.settings).volumes) c.self.view_is in omega (arith, c.requires.volume, c.self.invariant.many, same) in
    let volume : Volume g.row.D.Denot g.row.D-Piece.Denot = slice_index_or c.as_mut_slice.result.now c.args.volume c.index-as_mut_slice-volume.result in
    let at : At store.volumes c.args.volume volume = subst (λ (vs : List (Volume g.row.D.Denot g.row.D-Piece.Denot)). At vs c.args.volume volume) c.as_mut_slice.ensures.value
    (at_read c.as_mut_slice.result.now c.args.volume c.index-as_mut_slice-volume.result (let long = ap length c.as_mut_slice.ensures.value in omega (arith, within, long))) in
    let items =
    with_items_is c.self.inside.volumes (slice_set c.as_mut_slice.result.now c.args.volume c.see.new.self)
    (length-set c.as_mut_slice.result.now c.args.volume c.see.new.self ∙ c.as_mut_slice.ensures.len)
    ∙ ap (λ (vs : List (Volume g.row.D.Denot g.row.D-Piece.Denot)). slice_set vs c.args.volume c.see.new.self) c.as_mut_slice.ensures.value in
    subst (λ (vs : List (Volume g.row.D.Denot g.row.D-Piece.Denot)). KeepsIn (c.args.self.now).settings AnySlot (contents_in g.D.Disk.files c.args.self.now)
    (contents_in g.D.Disk.files (let next : Open g.row.D.Denot g.row.D-Piece.Denot g.row.A.Denot = record store { volumes = vs } in next))) (sym items)
    (called_keeps g.D.Disk.files g.D.Disk.Tells (c.args.self.now).settings c.args.self.now store c.args.volume volume c.see.new.self tells c.self.view_is at
    (c.see.ensures.counts).count c.see.ensures.files)

pub returns-clause-unchanged : goal.returns-clause-unchanged
returns-clause-unchanged g c =
    let store : Open g.row.D.Denot g.row.D-Piece.Denot g.row.A.Denot = record {
      settings = c.self.inside.settings;
      directory = c.self.inside.directory;
      volumes = c.self.inside.volumes.items;
      arms = c.self.inside.seats.items;
    } in
    let within : c.args.volume < length c.self.inside.volumes.items =
    let same = ap (λ (st : Open g.row.D.Denot g.row.D-Piece.Denot g.row.A.Denot). (st.settings).volumes) c.self.view_is in omega (arith, c.requires.volume, c.self.invariant.many, same) in
    let volume : Volume g.row.D.Denot g.row.D-Piece.Denot = slice_index_or c.as_mut_slice.result.now c.args.volume c.index-as_mut_slice-volume.result in
    let at : At store.volumes c.args.volume volume = subst (λ (vs : List (Volume g.row.D.Denot g.row.D-Piece.Denot)). At vs c.args.volume volume) c.as_mut_slice.ensures.value
    (at_read c.as_mut_slice.result.now c.args.volume c.index-as_mut_slice-volume.result (let long = ap length c.as_mut_slice.ensures.value in omega (arith, within, long))) in
    let items =
    with_items_is c.self.inside.volumes (slice_set c.as_mut_slice.result.now c.args.volume c.see.new.self)
    (length-set c.as_mut_slice.result.now c.args.volume c.see.new.self ∙ c.as_mut_slice.ensures.len)
    ∙ ap (λ (vs : List (Volume g.row.D.Denot g.row.D-Piece.Denot)). slice_set vs c.args.volume c.see.new.self) c.as_mut_slice.ensures.value in
    rw items (moves_none c.args.volume _ _ (volume_moves c.args.self.now store c.self.view_is c.args.volume volume c.see.new.self (λ before after. after ≡ before) at c.see.ensures.unchanged))

pub returns-clause-sights : goal.returns-clause-sights
returns-clause-sights g c =
    let store : Open g.row.D.Denot g.row.D-Piece.Denot g.row.A.Denot = record {
      settings = c.self.inside.settings;
      directory = c.self.inside.directory;
      volumes = c.self.inside.volumes.items;
      arms = c.self.inside.seats.items;
    } in
    let within : c.args.volume < length c.self.inside.volumes.items =
    let same = ap (λ (st : Open g.row.D.Denot g.row.D-Piece.Denot g.row.A.Denot). (st.settings).volumes) c.self.view_is in omega (arith, c.requires.volume, c.self.invariant.many, same) in
    let volume : Volume g.row.D.Denot g.row.D-Piece.Denot = slice_index_or c.as_mut_slice.result.now c.args.volume c.index-as_mut_slice-volume.result in
    let at : At store.volumes c.args.volume volume = subst (λ (vs : List (Volume g.row.D.Denot g.row.D-Piece.Denot)). At vs c.args.volume volume) c.as_mut_slice.ensures.value
    (at_read c.as_mut_slice.result.now c.args.volume c.index-as_mut_slice-volume.result (let long = ap length c.as_mut_slice.ensures.value in omega (arith, within, long))) in
    let items =
    with_items_is c.self.inside.volumes (slice_set c.as_mut_slice.result.now c.args.volume c.see.new.self)
    (length-set c.as_mut_slice.result.now c.args.volume c.see.new.self ∙ c.as_mut_slice.ensures.len)
    ∙ ap (λ (vs : List (Volume g.row.D.Denot g.row.D-Piece.Denot)). slice_set vs c.args.volume c.see.new.self) c.as_mut_slice.ensures.value in
    elim c.match-see.branch [
      | in-Ok w ↦ rw w.result-is (rw items (volume_photos c.args.self.now store c.self.view_is c.args.volume volume c.see.new.self at (SeesPair c.args.pair c.args.replica) w.in-Ok.ensures.sights))
      | in-Err w ↦ rw w.result-is tt
    ]

pub returns-clause-refused_sights : goal.returns-clause-refused_sights
returns-clause-refused_sights g c =
    let store : Open g.row.D.Denot g.row.D-Piece.Denot g.row.A.Denot = record {
      settings = c.self.inside.settings;
      directory = c.self.inside.directory;
      volumes = c.self.inside.volumes.items;
      arms = c.self.inside.seats.items;
    } in
    let within : c.args.volume < length c.self.inside.volumes.items =
    let same = ap (λ (st : Open g.row.D.Denot g.row.D-Piece.Denot g.row.A.Denot). (st.settings).volumes) c.self.view_is in omega (arith, c.requires.volume, c.self.invariant.many, same) in
    let volume : Volume g.row.D.Denot g.row.D-Piece.Denot = slice_index_or c.as_mut_slice.result.now c.args.volume c.index-as_mut_slice-volume.result in
    let at : At store.volumes c.args.volume volume = subst (λ (vs : List (Volume g.row.D.Denot g.row.D-Piece.Denot)). At vs c.args.volume volume) c.as_mut_slice.ensures.value
    (at_read c.as_mut_slice.result.now c.args.volume c.index-as_mut_slice-volume.result (let long = ap length c.as_mut_slice.ensures.value in omega (arith, within, long))) in
    let items =
    with_items_is c.self.inside.volumes (slice_set c.as_mut_slice.result.now c.args.volume c.see.new.self)
    (length-set c.as_mut_slice.result.now c.args.volume c.see.new.self ∙ c.as_mut_slice.ensures.len)
    ∙ ap (λ (vs : List (Volume g.row.D.Denot g.row.D-Piece.Denot)). slice_set vs c.args.volume c.see.new.self) c.as_mut_slice.ensures.value in
    elim c.match-see.branch [
      | in-Ok w ↦ rw w.result-is tt
      | in-Err w ↦ rw w.result-is
          (rw items (
            volume_kept_photos c.args.self.now store c.self.view_is c.args.volume volume c.see.new.self at
                (refused_keeps c.args.pair c.args.replica (sights_of volume.rows) (sights_of (c.see.new.self).rows) w.in-Err.fault w.in-Err.ensures.refused_sights),
            subst (λ (seen : Sights). AwaitsFor w.in-Err.fault (seen c.args.pair c.args.replica)) (sym (photos_at c.args.self.now store c.self.view_is c.args.volume volume at))
                (refused_awaits c.args.pair c.args.replica (sights_of volume.rows) (sights_of (c.see.new.self).rows) w.in-Err.fault w.in-Err.ensures.refused_sights),
          ))
    ]

pub returns-clause-told : goal.returns-clause-told
returns-clause-told g c = λ tells.
    let store : Open g.row.D.Denot g.row.D-Piece.Denot g.row.A.Denot = record {
      settings = c.self.inside.settings;
      directory = c.self.inside.directory;
      volumes = c.self.inside.volumes.items;
      arms = c.self.inside.seats.items;
    } in
    let within : c.args.volume < length c.self.inside.volumes.items =
    let same = ap (λ (st : Open g.row.D.Denot g.row.D-Piece.Denot g.row.A.Denot). (st.settings).volumes) c.self.view_is in omega (arith, c.requires.volume, c.self.invariant.many, same) in
    let volume : Volume g.row.D.Denot g.row.D-Piece.Denot = slice_index_or c.as_mut_slice.result.now c.args.volume c.index-as_mut_slice-volume.result in
    let at : At store.volumes c.args.volume volume = subst (λ (vs : List (Volume g.row.D.Denot g.row.D-Piece.Denot)). At vs c.args.volume volume) c.as_mut_slice.ensures.value
    (at_read c.as_mut_slice.result.now c.args.volume c.index-as_mut_slice-volume.result (let long = ap length c.as_mut_slice.ensures.value in omega (arith, within, long))) in
    let items =
    with_items_is c.self.inside.volumes (slice_set c.as_mut_slice.result.now c.args.volume c.see.new.self)
    (length-set c.as_mut_slice.result.now c.args.volume c.see.new.self ∙ c.as_mut_slice.ensures.len)
    ∙ ap (λ (vs : List (Volume g.row.D.Denot g.row.D-Piece.Denot)). slice_set vs c.args.volume c.see.new.self) c.as_mut_slice.ensures.value in
    let told = told_as g.D.Disk.files c.args.self.now store c.self.view_is c.self.invariant c.args.volume volume at c.args.pair (sights_of (c.see.new.self).rows) (c.see.ensures.told tells) in
    rw items (told_kept (c.args.self.now).settings (contents_in g.D.Disk.files c.args.self.now) (store_seen c.args.self.now) c.args.volume c.args.pair (sights_of (c.see.new.self).rows)
    ((store_seen (with_one store c.args.volume c.see.new.self)).places c.args.volume)
    (λ j. ap (λ (seen : Sights). seen c.args.pair j) (photos_now c.args.self.now store c.self.view_is c.args.volume volume c.see.new.self at)) told)

pub returns-clause-lacks : goal.returns-clause-lacks
returns-clause-lacks g c = λ tells m place is.
    let store : Open g.row.D.Denot g.row.D-Piece.Denot g.row.A.Denot = record {
      settings = c.self.inside.settings;
      directory = c.self.inside.directory;
      volumes = c.self.inside.volumes.items;
      arms = c.self.inside.seats.items;
    } in
    let within : c.args.volume < length c.self.inside.volumes.items =
    let same = ap (λ (st : Open g.row.D.Denot g.row.D-Piece.Denot g.row.A.Denot). (st.settings).volumes) c.self.view_is in omega (arith, c.requires.volume, c.self.invariant.many, same) in
    let volume : Volume g.row.D.Denot g.row.D-Piece.Denot = slice_index_or c.as_mut_slice.result.now c.args.volume c.index-as_mut_slice-volume.result in
    let at : At store.volumes c.args.volume volume = subst (λ (vs : List (Volume g.row.D.Denot g.row.D-Piece.Denot)). At vs c.args.volume volume) c.as_mut_slice.ensures.value
    (at_read c.as_mut_slice.result.now c.args.volume c.index-as_mut_slice-volume.result (let long = ap length c.as_mut_slice.ensures.value in omega (arith, within, long))) in
    let lacks = lacks_on g.D.Disk.files c.args.self.now store c.self.view_is c.self.invariant c.args.volume volume at c.args.pair c.args.replica place c.requires.replica in
    elim c.match-see.branch [
      | in-Ok w ↦ let wrong = sym w.result-is ∙ is in cc
      | in-Err w ↦ lacks (c.see.ensures.lacks tells m place (let was = w.in-Err.is in let told = w.result-is in cc))
    ]
