use Rattle.std.proofs.Common.{◌≡◌, ℕ, ◌<◌, List, ap, length, sym, subst, ◌∙◌, inl, inr, arith}
use Rattle.std.specs.Prelude.{slice_index_or, slice_set}
use Rattle.std.proofs.lemmas.List.{with_items_is}
use borrow.Author.Rules.{scaled_Fits}
use Rattle.hay_needle.specs.declared.settings.Settings.{Settings}
use Rattle.std.proofs.lemmas.Bool.{cases_order}
use Rattle.hay_disk.specs.Disk.{Files}
use Rattle.hay_physical.specs.OpenCopies.{Copy}
use Rattle.hay_logical.specs.Fits.{At}
use Rattle.hay_logical.specs.Volumes.{Volume}
use Rattle.hay_logical.proofs.Lists.{at_read}
use Rattle.hay_cluster.specs.Store.{Open, contents_in}
use Rattle.hay_cluster.proofs.Calls.{called_open, called_up}
use Rattle.hay_cluster.proofs.Lists.{length-set}
use Rattle.hay_cluster.proofs.Moves.{fused_counts, fused_fuses, shape_kept, volume_fused, volume_of}
use Rattle.hay_cluster.specs.Leaving.{AnySlot, KeepsIn}
use Rattle.hay_cluster.proofs.Leaving.{called_reads}
use Rattle.hay_cluster.proofs.Seeing.{moves_none, volume_moves}
use Rattle.hay_cluster.proofs.Sighting.{volume_kept_photos}
use Rattle.hay_logical.specs.Sights.{sights_of}
use Rattle.hay_cluster.proofs.cluster.Cluster.fuse_in.Goals as goal

-- the fused replica keeps its files, and every other all it had
fused_reads : {D : Type 0} (files : D → Files) (k : ℕ) (old new : List (Copy D)) → ((r r' : Copy D) → At old k r → At new k r' → files r'.disk ≡ files r.disk)
    → ((j : ℕ) → (j ≡ k → ⊥) → (r r' : Copy D) → At old j r → At new j r' → r' ≡ r)
    → (j : ℕ) (r r' : Copy D) (n : ℕ) → At old j r → At new j r' → (files r'.disk n).now ≡ (files r.disk n).now
fused_reads {D} files k old new here others j r r' n was now =
    elim (cases_order j k) [
      | inl is ↦ ap (λ (f : Files). (f n).now) (here r r' (subst (λ i. At old i r) is was) (subst (λ i. At new i r') is now))
      | inr (inl less) ↦ ap (λ (q : Copy D). (files q.disk n).now) (others j (λ e. omega (arith, e, less)) r r' was now)
      | inr (inr more) ↦ ap (λ (q : Copy D). (files q.disk n).now) (others j (λ e. omega (arith, e, more)) r r' was now)
    ]

pub offset_bounds-as_mut_slice-volume : goal.offset_bounds-as_mut_slice-volume
offset_bounds-as_mut_slice-volume g c =
    let within : c.args.volume < length c.self.inside.volumes.items =
    let same = ap (λ (st : Open g.row.D.Denot g.row.D-Piece.Denot g.row.A.Denot). (st.settings).volumes) c.self.view_is in omega (arith, c.requires.volume, c.self.invariant.many, same) in
    let long = ap length c.as_mut_slice.ensures.value in
    scaled_Fits c.args.volume (length c.as_mut_slice.result.now) _ (omega (arith, within, long)) c.as_mut_slice.type_inv.1

pub fuse-requires : goal.fuse-requires
fuse-requires g c =
    let store : Open g.row.D.Denot g.row.D-Piece.Denot g.row.A.Denot = record {
      settings = c.self.inside.settings;
      directory = c.self.inside.directory;
      volumes = c.self.inside.volumes.items;
      arms = c.self.inside.seats.items;
    } in
    let within : c.args.volume < length c.self.inside.volumes.items =
    let same = ap (λ (st : Open g.row.D.Denot g.row.D-Piece.Denot g.row.A.Denot). (st.settings).volumes) c.self.view_is in omega (arith, c.requires.volume, c.self.invariant.many, same) in
    let volume : Volume g.row.D.Denot g.row.D-Piece.Denot = slice_index_or c.as_mut_slice.result.now c.args.volume c.index-as_mut_slice-volume.result in
    let at : At store.volumes c.args.volume volume = subst (λ (vs : List (Volume g.row.D.Denot g.row.D-Piece.Denot)). At vs c.args.volume volume) c.as_mut_slice.ensures.value
    (at_read c.as_mut_slice.result.now c.args.volume c.index-as_mut_slice-volume.result (let long = ap length c.as_mut_slice.ensures.value in omega (arith, within, long))) in
    let was = volume_of store c.args.volume volume c.self.invariant at in
    let same = ap (λ (st : Open g.row.D.Denot g.row.D-Piece.Denot g.row.A.Denot). st.settings) c.self.view_is in
    let replicas_same = ap (λ (s : Settings). s.replicas) same in
    let all = was.all ∙ ap (λ (s : Settings). s.replicas) was.settings_are in
    let replica : c.args.replica < length volume.replicas = omega (arith, c.requires.replica, all, replicas_same) in
    replica

pub invariant_of-self : goal.invariant_of-self
invariant_of-self g c =
    let store : Open g.row.D.Denot g.row.D-Piece.Denot g.row.A.Denot = record {
      settings = c.self.inside.settings;
      directory = c.self.inside.directory;
      volumes = c.self.inside.volumes.items;
      arms = c.self.inside.seats.items;
    } in
    let within : c.args.volume < length c.self.inside.volumes.items =
    let same = ap (λ (st : Open g.row.D.Denot g.row.D-Piece.Denot g.row.A.Denot). (st.settings).volumes) c.self.view_is in omega (arith, c.requires.volume, c.self.invariant.many, same) in
    let volume : Volume g.row.D.Denot g.row.D-Piece.Denot = slice_index_or c.as_mut_slice.result.now c.args.volume c.index-as_mut_slice-volume.result in
    let at : At store.volumes c.args.volume volume = subst (λ (vs : List (Volume g.row.D.Denot g.row.D-Piece.Denot)). At vs c.args.volume volume) c.as_mut_slice.ensures.value
    (at_read c.as_mut_slice.result.now c.args.volume c.index-as_mut_slice-volume.result (let long = ap length c.as_mut_slice.ensures.value in omega (arith, within, long))) in
    let items =
    with_items_is c.self.inside.volumes (slice_set c.as_mut_slice.result.now c.args.volume c.fuse.new.self)
    (length-set c.as_mut_slice.result.now c.args.volume c.fuse.new.self ∙ c.as_mut_slice.ensures.len)
    ∙ ap (λ (vs : List (Volume g.row.D.Denot g.row.D-Piece.Denot)). slice_set vs c.args.volume c.fuse.new.self) c.as_mut_slice.ensures.value in
    rw items (shape_kept store c.args.volume volume c.fuse.new.self c.self.invariant at c.fuse.ensures.same c.fuse.ensures.count)

pub returns-clause-fused : goal.returns-clause-fused
returns-clause-fused g c = λ tells k stands.
    let store : Open g.row.D.Denot g.row.D-Piece.Denot g.row.A.Denot = record {
      settings = c.self.inside.settings;
      directory = c.self.inside.directory;
      volumes = c.self.inside.volumes.items;
      arms = c.self.inside.seats.items;
    } in
    let within : c.args.volume < length c.self.inside.volumes.items =
    let same = ap (λ (st : Open g.row.D.Denot g.row.D-Piece.Denot g.row.A.Denot). (st.settings).volumes) c.self.view_is in omega (arith, c.requires.volume, c.self.invariant.many, same) in
    let volume : Volume g.row.D.Denot g.row.D-Piece.Denot = slice_index_or c.as_mut_slice.result.now c.args.volume c.index-as_mut_slice-volume.result in
    let at : At store.volumes c.args.volume volume = subst (λ (vs : List (Volume g.row.D.Denot g.row.D-Piece.Denot)). At vs c.args.volume volume) c.as_mut_slice.ensures.value
    (at_read c.as_mut_slice.result.now c.args.volume c.index-as_mut_slice-volume.result (let long = ap length c.as_mut_slice.ensures.value in omega (arith, within, long))) in
    let items =
    with_items_is c.self.inside.volumes (slice_set c.as_mut_slice.result.now c.args.volume c.fuse.new.self)
    (length-set c.as_mut_slice.result.now c.args.volume c.fuse.new.self ∙ c.as_mut_slice.ensures.len)
    ∙ ap (λ (vs : List (Volume g.row.D.Denot g.row.D-Piece.Denot)). slice_set vs c.args.volume c.fuse.new.self) c.as_mut_slice.ensures.value in
    rw items
    (volume_fused g.D.Disk.files g.D.Piece.Piece.Tells g.D.Disk.fault_count g.D.Disk.fuse_count g.A.Arm.fault_count c.args.self.now store k c.args.volume c.args.replica volume
    c.fuse.new.self c.self.view_is at
    (let same = ap (λ (st : Open g.row.D.Denot g.row.D-Piece.Denot g.row.A.Denot). (st.settings).replicas) c.self.view_is in omega (arith, c.requires.replica, same)) stands
    (record { same = c.fuse.ensures.same; count = c.fuse.ensures.count; fused = c.fuse.ensures.fused; others = c.fuse.ensures.others }) (λ known s. c.fuse.ensures.stands tells known s))

pub returns-clause-counts : goal.returns-clause-counts
returns-clause-counts g c =
    let store : Open g.row.D.Denot g.row.D-Piece.Denot g.row.A.Denot = record {
      settings = c.self.inside.settings;
      directory = c.self.inside.directory;
      volumes = c.self.inside.volumes.items;
      arms = c.self.inside.seats.items;
    } in
    let within : c.args.volume < length c.self.inside.volumes.items =
    let same = ap (λ (st : Open g.row.D.Denot g.row.D-Piece.Denot g.row.A.Denot). (st.settings).volumes) c.self.view_is in omega (arith, c.requires.volume, c.self.invariant.many, same) in
    let volume : Volume g.row.D.Denot g.row.D-Piece.Denot = slice_index_or c.as_mut_slice.result.now c.args.volume c.index-as_mut_slice-volume.result in
    let at : At store.volumes c.args.volume volume = subst (λ (vs : List (Volume g.row.D.Denot g.row.D-Piece.Denot)). At vs c.args.volume volume) c.as_mut_slice.ensures.value
    (at_read c.as_mut_slice.result.now c.args.volume c.index-as_mut_slice-volume.result (let long = ap length c.as_mut_slice.ensures.value in omega (arith, within, long))) in
    let items =
    with_items_is c.self.inside.volumes (slice_set c.as_mut_slice.result.now c.args.volume c.fuse.new.self)
    (length-set c.as_mut_slice.result.now c.args.volume c.fuse.new.self ∙ c.as_mut_slice.ensures.len)
    ∙ ap (λ (vs : List (Volume g.row.D.Denot g.row.D-Piece.Denot)). slice_set vs c.args.volume c.fuse.new.self) c.as_mut_slice.ensures.value in
    rw items
    (fused_counts g.D.Disk.fault_count g.D.Disk.fuse_count c.args.self.now store c.args.volume c.args.replica volume c.fuse.new.self c.self.view_is at
    (record { same = c.fuse.ensures.same; count = c.fuse.ensures.count; fused = c.fuse.ensures.fused; others = c.fuse.ensures.others }))

pub returns-clause-up : goal.returns-clause-up
returns-clause-up g c =
    let store : Open g.row.D.Denot g.row.D-Piece.Denot g.row.A.Denot = record {
      settings = c.self.inside.settings;
      directory = c.self.inside.directory;
      volumes = c.self.inside.volumes.items;
      arms = c.self.inside.seats.items;
    } in
    let within : c.args.volume < length c.self.inside.volumes.items =
    let same = ap (λ (st : Open g.row.D.Denot g.row.D-Piece.Denot g.row.A.Denot). (st.settings).volumes) c.self.view_is in omega (arith, c.requires.volume, c.self.invariant.many, same) in
    let volume : Volume g.row.D.Denot g.row.D-Piece.Denot = slice_index_or c.as_mut_slice.result.now c.args.volume c.index-as_mut_slice-volume.result in
    let at : At store.volumes c.args.volume volume = subst (λ (vs : List (Volume g.row.D.Denot g.row.D-Piece.Denot)). At vs c.args.volume volume) c.as_mut_slice.ensures.value
    (at_read c.as_mut_slice.result.now c.args.volume c.index-as_mut_slice-volume.result (let long = ap length c.as_mut_slice.ensures.value in omega (arith, within, long))) in
    let items =
    with_items_is c.self.inside.volumes (slice_set c.as_mut_slice.result.now c.args.volume c.fuse.new.self)
    (length-set c.as_mut_slice.result.now c.args.volume c.fuse.new.self ∙ c.as_mut_slice.ensures.len)
    ∙ ap (λ (vs : List (Volume g.row.D.Denot g.row.D-Piece.Denot)). slice_set vs c.args.volume c.fuse.new.self) c.as_mut_slice.ensures.value in
    rw items
    (called_up c.args.self.now store c.args.volume c.fuse.new.self c.self.view_is c.requires.up
    (c.fuse.ensures.«open» (called_open c.args.self.now store c.args.volume volume c.self.view_is at c.requires.up)))

pub returns-clause-fuses : goal.returns-clause-fuses
returns-clause-fuses g c =
    let store : Open g.row.D.Denot g.row.D-Piece.Denot g.row.A.Denot = record {
      settings = c.self.inside.settings;
      directory = c.self.inside.directory;
      volumes = c.self.inside.volumes.items;
      arms = c.self.inside.seats.items;
    } in
    let within : c.args.volume < length c.self.inside.volumes.items =
    let same = ap (λ (st : Open g.row.D.Denot g.row.D-Piece.Denot g.row.A.Denot). (st.settings).volumes) c.self.view_is in omega (arith, c.requires.volume, c.self.invariant.many, same) in
    let volume : Volume g.row.D.Denot g.row.D-Piece.Denot = slice_index_or c.as_mut_slice.result.now c.args.volume c.index-as_mut_slice-volume.result in
    let at : At store.volumes c.args.volume volume = subst (λ (vs : List (Volume g.row.D.Denot g.row.D-Piece.Denot)). At vs c.args.volume volume) c.as_mut_slice.ensures.value
    (at_read c.as_mut_slice.result.now c.args.volume c.index-as_mut_slice-volume.result (let long = ap length c.as_mut_slice.ensures.value in omega (arith, within, long))) in
    let items =
    with_items_is c.self.inside.volumes (slice_set c.as_mut_slice.result.now c.args.volume c.fuse.new.self)
    (length-set c.as_mut_slice.result.now c.args.volume c.fuse.new.self ∙ c.as_mut_slice.ensures.len)
    ∙ ap (λ (vs : List (Volume g.row.D.Denot g.row.D-Piece.Denot)). slice_set vs c.args.volume c.fuse.new.self) c.as_mut_slice.ensures.value in
    let replica : c.args.replica < (store.settings).replicas =
    let same = ap (λ (st : Open g.row.D.Denot g.row.D-Piece.Denot g.row.A.Denot). (st.settings).replicas) c.self.view_is in omega (arith, c.requires.replica, same) in
    rw items
    (fused_fuses g.D.Disk.fault_count g.D.Disk.fuse_count c.args.self.now store c.args.volume c.args.replica volume c.fuse.new.self c.self.view_is c.self.invariant at replica
    (record { same = c.fuse.ensures.same; count = c.fuse.ensures.count; fused = c.fuse.ensures.fused; others = c.fuse.ensures.others }))

pub returns-clause-contents : goal.returns-clause-contents
returns-clause-contents g c = λ tells.
    let store : Open g.row.D.Denot g.row.D-Piece.Denot g.row.A.Denot = record {
      settings = c.self.inside.settings;
      directory = c.self.inside.directory;
      volumes = c.self.inside.volumes.items;
      arms = c.self.inside.seats.items;
    } in
    let within : c.args.volume < length c.self.inside.volumes.items =
    let same = ap (λ (st : Open g.row.D.Denot g.row.D-Piece.Denot g.row.A.Denot). (st.settings).volumes) c.self.view_is in omega (arith, c.requires.volume, c.self.invariant.many, same) in
    let volume : Volume g.row.D.Denot g.row.D-Piece.Denot = slice_index_or c.as_mut_slice.result.now c.args.volume c.index-as_mut_slice-volume.result in
    let at : At store.volumes c.args.volume volume = subst (λ (vs : List (Volume g.row.D.Denot g.row.D-Piece.Denot)). At vs c.args.volume volume) c.as_mut_slice.ensures.value
    (at_read c.as_mut_slice.result.now c.args.volume c.index-as_mut_slice-volume.result (let long = ap length c.as_mut_slice.ensures.value in omega (arith, within, long))) in
    let items =
    with_items_is c.self.inside.volumes (slice_set c.as_mut_slice.result.now c.args.volume c.fuse.new.self)
    (length-set c.as_mut_slice.result.now c.args.volume c.fuse.new.self ∙ c.as_mut_slice.ensures.len)
    ∙ ap (λ (vs : List (Volume g.row.D.Denot g.row.D-Piece.Denot)). slice_set vs c.args.volume c.fuse.new.self) c.as_mut_slice.ensures.value in
    subst (λ (vs : List (Volume g.row.D.Denot g.row.D-Piece.Denot)). KeepsIn (c.args.self.now).settings AnySlot (contents_in g.D.Disk.files c.args.self.now)
    (contents_in g.D.Disk.files (let next : Open g.row.D.Denot g.row.D-Piece.Denot g.row.A.Denot = record store { volumes = vs } in next))) (sym items)
    (called_reads g.D.Disk.files (c.args.self.now).settings c.args.self.now store c.args.volume volume c.fuse.new.self c.self.view_is at c.fuse.ensures.count
    (fused_reads g.D.Disk.files c.args.replica volume.replicas c.fuse.new.self.replicas (c.fuse.ensures.files tells) c.fuse.ensures.others))

pub returns-clause-seen : goal.returns-clause-seen
returns-clause-seen g c =
    let store : Open g.row.D.Denot g.row.D-Piece.Denot g.row.A.Denot = record {
      settings = c.self.inside.settings;
      directory = c.self.inside.directory;
      volumes = c.self.inside.volumes.items;
      arms = c.self.inside.seats.items;
    } in
    let within : c.args.volume < length c.self.inside.volumes.items =
    let same = ap (λ (st : Open g.row.D.Denot g.row.D-Piece.Denot g.row.A.Denot). (st.settings).volumes) c.self.view_is in omega (arith, c.requires.volume, c.self.invariant.many, same) in
    let volume : Volume g.row.D.Denot g.row.D-Piece.Denot = slice_index_or c.as_mut_slice.result.now c.args.volume c.index-as_mut_slice-volume.result in
    let at : At store.volumes c.args.volume volume = subst (λ (vs : List (Volume g.row.D.Denot g.row.D-Piece.Denot)). At vs c.args.volume volume) c.as_mut_slice.ensures.value
    (at_read c.as_mut_slice.result.now c.args.volume c.index-as_mut_slice-volume.result (let long = ap length c.as_mut_slice.ensures.value in omega (arith, within, long))) in
    let items =
    with_items_is c.self.inside.volumes (slice_set c.as_mut_slice.result.now c.args.volume c.fuse.new.self)
    (length-set c.as_mut_slice.result.now c.args.volume c.fuse.new.self ∙ c.as_mut_slice.ensures.len)
    ∙ ap (λ (vs : List (Volume g.row.D.Denot g.row.D-Piece.Denot)). slice_set vs c.args.volume c.fuse.new.self) c.as_mut_slice.ensures.value in
    rw items (moves_none c.args.volume _ _ (volume_moves c.args.self.now store c.self.view_is c.args.volume volume c.fuse.new.self (λ before after. after ≡ before) at c.fuse.ensures.unchanged))

pub returns-clause-sights : goal.returns-clause-sights
returns-clause-sights g c =
    let store : Open g.row.D.Denot g.row.D-Piece.Denot g.row.A.Denot = record {
      settings = c.self.inside.settings;
      directory = c.self.inside.directory;
      volumes = c.self.inside.volumes.items;
      arms = c.self.inside.seats.items;
    } in
    let within : c.args.volume < length c.self.inside.volumes.items =
    let same = ap (λ (st : Open g.row.D.Denot g.row.D-Piece.Denot g.row.A.Denot). (st.settings).volumes) c.self.view_is in omega (arith, c.requires.volume, c.self.invariant.many, same) in
    let volume : Volume g.row.D.Denot g.row.D-Piece.Denot = slice_index_or c.as_mut_slice.result.now c.args.volume c.index-as_mut_slice-volume.result in
    let at : At store.volumes c.args.volume volume = subst (λ (vs : List (Volume g.row.D.Denot g.row.D-Piece.Denot)). At vs c.args.volume volume) c.as_mut_slice.ensures.value
    (at_read c.as_mut_slice.result.now c.args.volume c.index-as_mut_slice-volume.result (let long = ap length c.as_mut_slice.ensures.value in omega (arith, within, long))) in
    let items =
    with_items_is c.self.inside.volumes (slice_set c.as_mut_slice.result.now c.args.volume c.fuse.new.self)
    (length-set c.as_mut_slice.result.now c.args.volume c.fuse.new.self ∙ c.as_mut_slice.ensures.len)
    ∙ ap (λ (vs : List (Volume g.row.D.Denot g.row.D-Piece.Denot)). slice_set vs c.args.volume c.fuse.new.self) c.as_mut_slice.ensures.value in
    rw items
    (volume_kept_photos c.args.self.now store c.self.view_is c.args.volume volume c.fuse.new.self at
    (λ pair j. ap (λ (w : Volume g.row.D.Denot g.row.D-Piece.Denot). sights_of w.rows pair j) c.fuse.ensures.still))
