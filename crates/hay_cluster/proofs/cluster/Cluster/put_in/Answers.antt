use Rattle.std.proofs.Common.{◌≡◌, ◌<◌, List, ap, length, sym, subst, ◌∙◌, arith, ℕ, Some}
use Rattle.std.specs.Prelude.{Result, Ok, Err, IfErr, slice_index_or, slice_set, OnErr}
use Rattle.std.proofs.lemmas.List.{with_items_is}
use Rattle.std.proofs.lemmas.Result.{IfErr-weaker, IfOk-weaker, on_ok_weaker, on_err_weaker}
use borrow.Author.Rules.{scaled_Fits}
use Rattle.hay_logical.specs.Fits.{At}
use Rattle.hay_logical.specs.Volumes.{Volume}
use Rattle.hay_logical.proofs.Lists.{at_read}
use Rattle.hay_cluster.specs.Store.{Open, contents_in, disks_of}
use Rattle.hay_cluster.proofs.Calls.{called_open, called_up, put_cause}
use Rattle.hay_cluster.proofs.Lists.{length-set}
use Rattle.hay_cluster.proofs.Moves.{Called, called_fuses, called_later, called_shape, in_volume, with_one}
use Rattle.hay_cluster.specs.Leaving.{IsBeside, LeavesIn, PutKeeps, AnySlot, ComesToPend, KeepsBehind, KeepsIn}
use Rattle.hay_cluster.proofs.Leaving.{called_leaves, put_keeps, called_behind, called_keeps, comes_to_pend}
use Rattle.hay_core.specs.declared.entry.CoreTag.{CoreTag}
use Rattle.hay_needle.specs.declared.settings.Settings.{Settings}
use Rattle.hay_legal.specs.Stands.{Contents}
use Rattle.hay_logical.specs.declared.fault.LogicalFault.{LogicalFault}
use Rattle.hay_logical.specs.declared.fault.LogicalFault.TheVariants as refusal
use Rattle.hay_logical.specs.declared.unsure.Unsure.{Unsure}
use Rattle.hay_logical.specs.ReplicaCalls.{KeepsFiles}
use Rattle.hay_logical.specs.Seen.{FreezesSeen, PutRefusedSeen, PutSeen, volume_seen, VolumeSeen}
use Rattle.hay_cluster.proofs.Moves.{volume_of}
use Rattle.hay_cluster.proofs.Seeing.{seen_at, volume_moves}
use Rattle.hay_cluster.specs.Seen.{store_seen}
use Rattle.hay_cluster.proofs.Sighting.{volume_kept_photos, volume_photos}
use Rattle.hay_logical.specs.Sights.{StoresSights}
use Rattle.hay_cluster.proofs.cluster.Cluster.put_in.Goals as goal

refused_keeps : {T : Type 0} (settings : Settings) (v : ℕ) (pending pending' : List VolumeSeen) (old new : ℕ → Contents) (tag : CoreTag) (before after : VolumeSeen)
    (called : Settings) (number size : ℕ) (Kept : Type 0)
    (r : Result T LogicalFault) → IfErr r (PutRefusedSeen called number tag size before after) → OnErr r (after.unsure ≡ before.unsure → Kept) → (Kept → KeepsIn settings AnySlot old new)
    → ((m : ℕ) (change : Unsure) → FreezesSeen m (Some change) before after → ComesToPend v pending pending') → ((m f : ℕ) → r ≡ Err (refusal.Failed m f) → KeepsBehind settings v m old new)
    → IfErr r (PutKeeps settings v pending pending' old new)
refused_keeps settings v pending pending' old new tag before after called number size Kept (Ok x) refused files keeps pends behind = tt
refused_keeps settings v pending pending' old new tag before after called number size Kept (Err fault) refused files keeps pends behind =
    put_keeps settings v pending pending' old new tag before after (λ same. keeps (files same)) pends called number size fault refused (λ m f is. behind m f (ap Err is))

pub offset_bounds-as_mut_slice-volume : goal.offset_bounds-as_mut_slice-volume
offset_bounds-as_mut_slice-volume g c =
    let within : c.args.volume < length c.self.inside.volumes.items =
    let same = ap (λ (st : Open g.row.D.Denot g.row.D-Piece.Denot g.row.A.Denot). (st.settings).volumes) c.self.view_is in omega (arith, c.requires.volume, c.self.invariant.many, same) in
    let long = ap length c.as_mut_slice.ensures.value in
    scaled_Fits c.args.volume (length c.as_mut_slice.result.now) _ (omega (arith, within, long)) c.as_mut_slice.type_inv.1

pub put-requires : goal.put-requires
put-requires g c =
    let store : Open g.row.D.Denot g.row.D-Piece.Denot g.row.A.Denot = record {
      settings = c.self.inside.settings;
      directory = c.self.inside.directory;
      volumes = c.self.inside.volumes.items;
      arms = c.self.inside.seats.items;
    } in
    let within : c.args.volume < length c.self.inside.volumes.items =
    let same = ap (λ (st : Open g.row.D.Denot g.row.D-Piece.Denot g.row.A.Denot). (st.settings).volumes) c.self.view_is in omega (arith, c.requires.volume, c.self.invariant.many, same) in
    let volume : Volume g.row.D.Denot g.row.D-Piece.Denot = slice_index_or c.as_mut_slice.result.now c.args.volume c.index-as_mut_slice-volume.result in
    let at : At store.volumes c.args.volume volume = subst (λ (vs : List (Volume g.row.D.Denot g.row.D-Piece.Denot)). At vs c.args.volume volume) c.as_mut_slice.ensures.value
    (at_read c.as_mut_slice.result.now c.args.volume c.index-as_mut_slice-volume.result (let long = ap length c.as_mut_slice.ensures.value in omega (arith, within, long))) in
    record { size = c.requires.size; «open» = called_open c.args.self.now store c.args.volume volume c.self.view_is at c.requires.up }

pub invariant_of-self : goal.invariant_of-self
invariant_of-self g c =
    let store : Open g.row.D.Denot g.row.D-Piece.Denot g.row.A.Denot = record {
      settings = c.self.inside.settings;
      directory = c.self.inside.directory;
      volumes = c.self.inside.volumes.items;
      arms = c.self.inside.seats.items;
    } in
    let within : c.args.volume < length c.self.inside.volumes.items =
    let same = ap (λ (st : Open g.row.D.Denot g.row.D-Piece.Denot g.row.A.Denot). (st.settings).volumes) c.self.view_is in omega (arith, c.requires.volume, c.self.invariant.many, same) in
    let volume : Volume g.row.D.Denot g.row.D-Piece.Denot = slice_index_or c.as_mut_slice.result.now c.args.volume c.index-as_mut_slice-volume.result in
    let at : At store.volumes c.args.volume volume = subst (λ (vs : List (Volume g.row.D.Denot g.row.D-Piece.Denot)). At vs c.args.volume volume) c.as_mut_slice.ensures.value
    (at_read c.as_mut_slice.result.now c.args.volume c.index-as_mut_slice-volume.result (let long = ap length c.as_mut_slice.ensures.value in omega (arith, within, long))) in
    let items =
    with_items_is c.self.inside.volumes (slice_set c.as_mut_slice.result.now c.args.volume c.put.new.self)
    (length-set c.as_mut_slice.result.now c.args.volume c.put.new.self ∙ c.as_mut_slice.ensures.len)
    ∙ ap (λ (vs : List (Volume g.row.D.Denot g.row.D-Piece.Denot)). slice_set vs c.args.volume c.put.new.self) c.as_mut_slice.ensures.value in
    let called : Called g.D.Disk.fault_count g.D.Disk.fuse_count store c.args.volume volume c.put.new.self = record { at = at; same = c.put.ensures.same; counts = c.put.ensures.counts } in
    rw items (called_shape g.D.Disk.fault_count g.D.Disk.fuse_count store c.args.volume volume c.put.new.self c.self.invariant called)

pub returns-clause-moves : goal.returns-clause-moves
returns-clause-moves g c = λ tells k stands.
    let store : Open g.row.D.Denot g.row.D-Piece.Denot g.row.A.Denot = record {
      settings = c.self.inside.settings;
      directory = c.self.inside.directory;
      volumes = c.self.inside.volumes.items;
      arms = c.self.inside.seats.items;
    } in
    let within : c.args.volume < length c.self.inside.volumes.items =
    let same = ap (λ (st : Open g.row.D.Denot g.row.D-Piece.Denot g.row.A.Denot). (st.settings).volumes) c.self.view_is in omega (arith, c.requires.volume, c.self.invariant.many, same) in
    let volume : Volume g.row.D.Denot g.row.D-Piece.Denot = slice_index_or c.as_mut_slice.result.now c.args.volume c.index-as_mut_slice-volume.result in
    let at : At store.volumes c.args.volume volume = subst (λ (vs : List (Volume g.row.D.Denot g.row.D-Piece.Denot)). At vs c.args.volume volume) c.as_mut_slice.ensures.value
    (at_read c.as_mut_slice.result.now c.args.volume c.index-as_mut_slice-volume.result (let long = ap length c.as_mut_slice.ensures.value in omega (arith, within, long))) in
    let items =
    with_items_is c.self.inside.volumes (slice_set c.as_mut_slice.result.now c.args.volume c.put.new.self)
    (length-set c.as_mut_slice.result.now c.args.volume c.put.new.self ∙ c.as_mut_slice.ensures.len)
    ∙ ap (λ (vs : List (Volume g.row.D.Denot g.row.D-Piece.Denot)). slice_set vs c.args.volume c.put.new.self) c.as_mut_slice.ensures.value in
    let called : Called g.D.Disk.fault_count g.D.Disk.fuse_count store c.args.volume volume c.put.new.self = record { at = at; same = c.put.ensures.same; counts = c.put.ensures.counts } in
    rw items
    (in_volume g.D.Disk.files g.D.Piece.Piece.Tells g.D.Disk.fault_count g.D.Disk.fuse_count g.A.Arm.fault_count c.args.self.now store k c.args.volume volume c.put.new.self _
    c.self.view_is c.self.invariant called stands
    (λ stood. (c.put.ensures.stored tells _ stood, c.put.ensures.refused tells _ stood)))

pub returns-clause-causes : goal.returns-clause-causes
returns-clause-causes g c =
    let store : Open g.row.D.Denot g.row.D-Piece.Denot g.row.A.Denot = record {
      settings = c.self.inside.settings;
      directory = c.self.inside.directory;
      volumes = c.self.inside.volumes.items;
      arms = c.self.inside.seats.items;
    } in
    let within : c.args.volume < length c.self.inside.volumes.items =
    let same = ap (λ (st : Open g.row.D.Denot g.row.D-Piece.Denot g.row.A.Denot). (st.settings).volumes) c.self.view_is in omega (arith, c.requires.volume, c.self.invariant.many, same) in
    let volume : Volume g.row.D.Denot g.row.D-Piece.Denot = slice_index_or c.as_mut_slice.result.now c.args.volume c.index-as_mut_slice-volume.result in
    let at : At store.volumes c.args.volume volume = subst (λ (vs : List (Volume g.row.D.Denot g.row.D-Piece.Denot)). At vs c.args.volume volume) c.as_mut_slice.ensures.value
    (at_read c.as_mut_slice.result.now c.args.volume c.index-as_mut_slice-volume.result (let long = ap length c.as_mut_slice.ensures.value in omega (arith, within, long))) in
    let items =
    with_items_is c.self.inside.volumes (slice_set c.as_mut_slice.result.now c.args.volume c.put.new.self)
    (length-set c.as_mut_slice.result.now c.args.volume c.put.new.self ∙ c.as_mut_slice.ensures.len)
    ∙ ap (λ (vs : List (Volume g.row.D.Denot g.row.D-Piece.Denot)). slice_set vs c.args.volume c.put.new.self) c.as_mut_slice.ensures.value in
    let called : Called g.D.Disk.fault_count g.D.Disk.fuse_count store c.args.volume volume c.put.new.self = record { at = at; same = c.put.ensures.same; counts = c.put.ensures.counts } in
    rw items
    (IfErr-weaker c.put.result _ _ (λ fault. put_cause g.D.Disk.fault_count g.D.Disk.fuse_count c.args.self.now store c.args.volume volume c.put.new.self fault c.self.view_is
    c.self.invariant called) c.put.ensures.causes)

pub returns-clause-counts : goal.returns-clause-counts
returns-clause-counts g c =
    let store : Open g.row.D.Denot g.row.D-Piece.Denot g.row.A.Denot = record {
      settings = c.self.inside.settings;
      directory = c.self.inside.directory;
      volumes = c.self.inside.volumes.items;
      arms = c.self.inside.seats.items;
    } in
    let within : c.args.volume < length c.self.inside.volumes.items =
    let same = ap (λ (st : Open g.row.D.Denot g.row.D-Piece.Denot g.row.A.Denot). (st.settings).volumes) c.self.view_is in omega (arith, c.requires.volume, c.self.invariant.many, same) in
    let volume : Volume g.row.D.Denot g.row.D-Piece.Denot = slice_index_or c.as_mut_slice.result.now c.args.volume c.index-as_mut_slice-volume.result in
    let at : At store.volumes c.args.volume volume = subst (λ (vs : List (Volume g.row.D.Denot g.row.D-Piece.Denot)). At vs c.args.volume volume) c.as_mut_slice.ensures.value
    (at_read c.as_mut_slice.result.now c.args.volume c.index-as_mut_slice-volume.result (let long = ap length c.as_mut_slice.ensures.value in omega (arith, within, long))) in
    let items =
    with_items_is c.self.inside.volumes (slice_set c.as_mut_slice.result.now c.args.volume c.put.new.self)
    (length-set c.as_mut_slice.result.now c.args.volume c.put.new.self ∙ c.as_mut_slice.ensures.len)
    ∙ ap (λ (vs : List (Volume g.row.D.Denot g.row.D-Piece.Denot)). slice_set vs c.args.volume c.put.new.self) c.as_mut_slice.ensures.value in
    let called : Called g.D.Disk.fault_count g.D.Disk.fuse_count store c.args.volume volume c.put.new.self = record { at = at; same = c.put.ensures.same; counts = c.put.ensures.counts } in
    rw items (called_later g.D.Disk.fault_count g.D.Disk.fuse_count c.args.self.now store c.args.volume volume c.put.new.self c.self.view_is called)

pub returns-clause-up : goal.returns-clause-up
returns-clause-up g c =
    let store : Open g.row.D.Denot g.row.D-Piece.Denot g.row.A.Denot = record {
      settings = c.self.inside.settings;
      directory = c.self.inside.directory;
      volumes = c.self.inside.volumes.items;
      arms = c.self.inside.seats.items;
    } in
    let items =
    with_items_is c.self.inside.volumes (slice_set c.as_mut_slice.result.now c.args.volume c.put.new.self)
    (length-set c.as_mut_slice.result.now c.args.volume c.put.new.self ∙ c.as_mut_slice.ensures.len)
    ∙ ap (λ (vs : List (Volume g.row.D.Denot g.row.D-Piece.Denot)). slice_set vs c.args.volume c.put.new.self) c.as_mut_slice.ensures.value in
    rw items (called_up c.args.self.now store c.args.volume c.put.new.self c.self.view_is c.requires.up c.put.ensures.«open»)

pub returns-clause-fuses : goal.returns-clause-fuses
returns-clause-fuses g c =
    let store : Open g.row.D.Denot g.row.D-Piece.Denot g.row.A.Denot = record {
      settings = c.self.inside.settings;
      directory = c.self.inside.directory;
      volumes = c.self.inside.volumes.items;
      arms = c.self.inside.seats.items;
    } in
    let within : c.args.volume < length c.self.inside.volumes.items =
    let same = ap (λ (st : Open g.row.D.Denot g.row.D-Piece.Denot g.row.A.Denot). (st.settings).volumes) c.self.view_is in omega (arith, c.requires.volume, c.self.invariant.many, same) in
    let volume : Volume g.row.D.Denot g.row.D-Piece.Denot = slice_index_or c.as_mut_slice.result.now c.args.volume c.index-as_mut_slice-volume.result in
    let at : At store.volumes c.args.volume volume = subst (λ (vs : List (Volume g.row.D.Denot g.row.D-Piece.Denot)). At vs c.args.volume volume) c.as_mut_slice.ensures.value
    (at_read c.as_mut_slice.result.now c.args.volume c.index-as_mut_slice-volume.result (let long = ap length c.as_mut_slice.ensures.value in omega (arith, within, long))) in
    let items =
    with_items_is c.self.inside.volumes (slice_set c.as_mut_slice.result.now c.args.volume c.put.new.self)
    (length-set c.as_mut_slice.result.now c.args.volume c.put.new.self ∙ c.as_mut_slice.ensures.len)
    ∙ ap (λ (vs : List (Volume g.row.D.Denot g.row.D-Piece.Denot)). slice_set vs c.args.volume c.put.new.self) c.as_mut_slice.ensures.value in
    let called : Called g.D.Disk.fault_count g.D.Disk.fuse_count store c.args.volume volume c.put.new.self = record { at = at; same = c.put.ensures.same; counts = c.put.ensures.counts } in
    rw items (called_fuses g.D.Disk.fault_count g.D.Disk.fuse_count c.args.self.now store c.args.volume volume c.put.new.self c.self.view_is called)

pub returns-clause-beside : goal.returns-clause-beside
returns-clause-beside g c =
    let store : Open g.row.D.Denot g.row.D-Piece.Denot g.row.A.Denot = record {
      settings = c.self.inside.settings;
      directory = c.self.inside.directory;
      volumes = c.self.inside.volumes.items;
      arms = c.self.inside.seats.items;
    } in
    let within : c.args.volume < length c.self.inside.volumes.items =
    let same = ap (λ (st : Open g.row.D.Denot g.row.D-Piece.Denot g.row.A.Denot). (st.settings).volumes) c.self.view_is in omega (arith, c.requires.volume, c.self.invariant.many, same) in
    let volume : Volume g.row.D.Denot g.row.D-Piece.Denot = slice_index_or c.as_mut_slice.result.now c.args.volume c.index-as_mut_slice-volume.result in
    let at : At store.volumes c.args.volume volume = subst (λ (vs : List (Volume g.row.D.Denot g.row.D-Piece.Denot)). At vs c.args.volume volume) c.as_mut_slice.ensures.value
    (at_read c.as_mut_slice.result.now c.args.volume c.index-as_mut_slice-volume.result (let long = ap length c.as_mut_slice.ensures.value in omega (arith, within, long))) in
    let items =
    with_items_is c.self.inside.volumes (slice_set c.as_mut_slice.result.now c.args.volume c.put.new.self)
    (length-set c.as_mut_slice.result.now c.args.volume c.put.new.self ∙ c.as_mut_slice.ensures.len)
    ∙ ap (λ (vs : List (Volume g.row.D.Denot g.row.D-Piece.Denot)). slice_set vs c.args.volume c.put.new.self) c.as_mut_slice.ensures.value in
    subst (λ (vs : List (Volume g.row.D.Denot g.row.D-Piece.Denot)). LeavesIn (IsBeside (c.args.self.now).settings c.args.volume) (disks_of c.args.self.now)
    (disks_of (let next : Open g.row.D.Denot g.row.D-Piece.Denot g.row.A.Denot = record store { volumes = vs } in next))) (sym items)
    (called_leaves c.args.self.now store c.args.volume volume c.put.new.self c.self.view_is c.self.invariant at (c.put.ensures.counts).count)

pub returns-clause-takes : goal.returns-clause-takes
returns-clause-takes g c = λ takes.
    let store : Open g.row.D.Denot g.row.D-Piece.Denot g.row.A.Denot = record {
      settings = c.self.inside.settings;
      directory = c.self.inside.directory;
      volumes = c.self.inside.volumes.items;
      arms = c.self.inside.seats.items;
    } in
    let within : c.args.volume < length c.self.inside.volumes.items =
    let same = ap (λ (st : Open g.row.D.Denot g.row.D-Piece.Denot g.row.A.Denot). (st.settings).volumes) c.self.view_is in omega (arith, c.requires.volume, c.self.invariant.many, same) in
    let volume : Volume g.row.D.Denot g.row.D-Piece.Denot = slice_index_or c.as_mut_slice.result.now c.args.volume c.index-as_mut_slice-volume.result in
    let at : At store.volumes c.args.volume volume = subst (λ (vs : List (Volume g.row.D.Denot g.row.D-Piece.Denot)). At vs c.args.volume volume) c.as_mut_slice.ensures.value
    (at_read c.as_mut_slice.result.now c.args.volume c.index-as_mut_slice-volume.result (let long = ap length c.as_mut_slice.ensures.value in omega (arith, within, long))) in
    let took = takes volume (subst (λ (st : Open g.row.D.Denot g.row.D-Piece.Denot g.row.A.Denot). At st.volumes c.args.volume volume) c.self.view_is at) in
    c.put.ensures.takes took.0 took.1

pub returns-clause-kept : goal.returns-clause-kept
returns-clause-kept g c = λ tells.
    let store : Open g.row.D.Denot g.row.D-Piece.Denot g.row.A.Denot = record {
      settings = c.self.inside.settings;
      directory = c.self.inside.directory;
      volumes = c.self.inside.volumes.items;
      arms = c.self.inside.seats.items;
    } in
    let within : c.args.volume < length c.self.inside.volumes.items =
    let same = ap (λ (st : Open g.row.D.Denot g.row.D-Piece.Denot g.row.A.Denot). (st.settings).volumes) c.self.view_is in omega (arith, c.requires.volume, c.self.invariant.many, same) in
    let volume : Volume g.row.D.Denot g.row.D-Piece.Denot = slice_index_or c.as_mut_slice.result.now c.args.volume c.index-as_mut_slice-volume.result in
    let at : At store.volumes c.args.volume volume = subst (λ (vs : List (Volume g.row.D.Denot g.row.D-Piece.Denot)). At vs c.args.volume volume) c.as_mut_slice.ensures.value
    (at_read c.as_mut_slice.result.now c.args.volume c.index-as_mut_slice-volume.result (let long = ap length c.as_mut_slice.ensures.value in omega (arith, within, long))) in
    let items =
    with_items_is c.self.inside.volumes (slice_set c.as_mut_slice.result.now c.args.volume c.put.new.self)
    (length-set c.as_mut_slice.result.now c.args.volume c.put.new.self ∙ c.as_mut_slice.ensures.len)
    ∙ ap (λ (vs : List (Volume g.row.D.Denot g.row.D-Piece.Denot)). slice_set vs c.args.volume c.put.new.self) c.as_mut_slice.ensures.value in
    let called : Called g.D.Disk.fault_count g.D.Disk.fuse_count store c.args.volume volume c.put.new.self = record { at = at; same = c.put.ensures.same; counts = c.put.ensures.counts } in
    let settings = (c.args.self.now).settings in
    let keeps = λ (files : KeepsFiles g.D.Disk.Tells g.D.Disk.files volume.replicas c.put.new.self.replicas).
    called_keeps g.D.Disk.files g.D.Disk.Tells settings c.args.self.now store c.args.volume volume c.put.new.self tells c.self.view_is at (c.put.ensures.counts).count files in
    subst (λ (vs : List (Volume g.row.D.Denot g.row.D-Piece.Denot)). let next : Open g.row.D.Denot g.row.D-Piece.Denot g.row.A.Denot = record store { volumes = vs } in
    IfErr c.put.result (PutKeeps settings c.args.volume (store_seen c.args.self.now).volumes (store_seen next).volumes (contents_in g.D.Disk.files c.args.self.now)
    (contents_in g.D.Disk.files next))) (sym items)
    (refused_keeps settings c.args.volume (store_seen c.args.self.now).volumes (store_seen (with_one store c.args.volume c.put.new.self)).volumes
    (contents_in g.D.Disk.files c.args.self.now) (contents_in g.D.Disk.files (with_one store c.args.volume c.put.new.self)) c.args.tag (volume_seen volume)
    (volume_seen c.put.new.self) volume.settings volume.number (length c.args.bytes.now) _ c.put.result
    c.put.ensures.refused_seen c.put.ensures.files keeps
    (λ m change freezes. comes_to_pend c.args.self.now store c.args.volume volume c.put.new.self m change c.self.view_is at freezes)
    (λ m f is. called_behind g.D.Disk.Tells g.D.Disk.files g.D.Disk.fault_count g.D.Disk.fuse_count tells c.args.self.now store c.args.volume volume c.put.new.self c.self.view_is
    c.self.invariant called m (c.put.ensures.above m f is)))

pub returns-clause-seen : goal.returns-clause-seen
returns-clause-seen g c =
    let store : Open g.row.D.Denot g.row.D-Piece.Denot g.row.A.Denot = record {
      settings = c.self.inside.settings;
      directory = c.self.inside.directory;
      volumes = c.self.inside.volumes.items;
      arms = c.self.inside.seats.items;
    } in
    let within : c.args.volume < length c.self.inside.volumes.items =
    let same = ap (λ (st : Open g.row.D.Denot g.row.D-Piece.Denot g.row.A.Denot). (st.settings).volumes) c.self.view_is in omega (arith, c.requires.volume, c.self.invariant.many, same) in
    let volume : Volume g.row.D.Denot g.row.D-Piece.Denot = slice_index_or c.as_mut_slice.result.now c.args.volume c.index-as_mut_slice-volume.result in
    let at : At store.volumes c.args.volume volume = subst (λ (vs : List (Volume g.row.D.Denot g.row.D-Piece.Denot)). At vs c.args.volume volume) c.as_mut_slice.ensures.value
    (at_read c.as_mut_slice.result.now c.args.volume c.index-as_mut_slice-volume.result (let long = ap length c.as_mut_slice.ensures.value in omega (arith, within, long))) in
    let items =
    with_items_is c.self.inside.volumes (slice_set c.as_mut_slice.result.now c.args.volume c.put.new.self)
    (length-set c.as_mut_slice.result.now c.args.volume c.put.new.self ∙ c.as_mut_slice.ensures.len)
    ∙ ap (λ (vs : List (Volume g.row.D.Denot g.row.D-Piece.Denot)). slice_set vs c.args.volume c.put.new.self) c.as_mut_slice.ensures.value in
    rw items
    (IfOk-weaker c.put.result _ _ (λ position moves. volume_moves c.args.self.now store c.self.view_is c.args.volume volume c.put.new.self
    (PutSeen (length c.args.bytes.now) position) at moves) c.put.ensures.seen)

pub returns-clause-refused_seen : goal.returns-clause-refused_seen
returns-clause-refused_seen g c =
    let store : Open g.row.D.Denot g.row.D-Piece.Denot g.row.A.Denot = record {
      settings = c.self.inside.settings;
      directory = c.self.inside.directory;
      volumes = c.self.inside.volumes.items;
      arms = c.self.inside.seats.items;
    } in
    let within : c.args.volume < length c.self.inside.volumes.items =
    let same = ap (λ (st : Open g.row.D.Denot g.row.D-Piece.Denot g.row.A.Denot). (st.settings).volumes) c.self.view_is in omega (arith, c.requires.volume, c.self.invariant.many, same) in
    let volume : Volume g.row.D.Denot g.row.D-Piece.Denot = slice_index_or c.as_mut_slice.result.now c.args.volume c.index-as_mut_slice-volume.result in
    let at : At store.volumes c.args.volume volume = subst (λ (vs : List (Volume g.row.D.Denot g.row.D-Piece.Denot)). At vs c.args.volume volume) c.as_mut_slice.ensures.value
    (at_read c.as_mut_slice.result.now c.args.volume c.index-as_mut_slice-volume.result (let long = ap length c.as_mut_slice.ensures.value in omega (arith, within, long))) in
    let items =
    with_items_is c.self.inside.volumes (slice_set c.as_mut_slice.result.now c.args.volume c.put.new.self)
    (length-set c.as_mut_slice.result.now c.args.volume c.put.new.self ∙ c.as_mut_slice.ensures.len)
    ∙ ap (λ (vs : List (Volume g.row.D.Denot g.row.D-Piece.Denot)). slice_set vs c.args.volume c.put.new.self) c.as_mut_slice.ensures.value in
    let was = volume_of store c.args.volume volume c.self.invariant at in
    let same = was.settings_are ∙ ap (λ (st : Open g.row.D.Denot g.row.D-Piece.Denot g.row.A.Denot). st.settings) c.self.view_is in
    let Refused : Settings → ℕ → LogicalFault → Type 0 = λ s n fault. PutRefusedSeen s n c.args.tag (length c.args.bytes.now) (volume_seen volume) (volume_seen c.put.new.self) fault in
    rw items
    (IfErr-weaker c.put.result _ _ (λ fault moves. volume_moves c.args.self.now store c.self.view_is c.args.volume volume c.put.new.self
    (λ before after. PutRefusedSeen (c.args.self.now).settings c.args.volume c.args.tag (length c.args.bytes.now) before after fault) at
    (subst (λ s. Refused s c.args.volume fault) same (subst (λ n. Refused volume.settings n fault) was.number moves))) c.put.ensures.refused_seen)

pub returns-clause-sights : goal.returns-clause-sights
returns-clause-sights g c =
    let store : Open g.row.D.Denot g.row.D-Piece.Denot g.row.A.Denot = record {
      settings = c.self.inside.settings;
      directory = c.self.inside.directory;
      volumes = c.self.inside.volumes.items;
      arms = c.self.inside.seats.items;
    } in
    let within : c.args.volume < length c.self.inside.volumes.items =
    let same = ap (λ (st : Open g.row.D.Denot g.row.D-Piece.Denot g.row.A.Denot). (st.settings).volumes) c.self.view_is in omega (arith, c.requires.volume, c.self.invariant.many, same) in
    let volume : Volume g.row.D.Denot g.row.D-Piece.Denot = slice_index_or c.as_mut_slice.result.now c.args.volume c.index-as_mut_slice-volume.result in
    let at : At store.volumes c.args.volume volume = subst (λ (vs : List (Volume g.row.D.Denot g.row.D-Piece.Denot)). At vs c.args.volume volume) c.as_mut_slice.ensures.value
    (at_read c.as_mut_slice.result.now c.args.volume c.index-as_mut_slice-volume.result (let long = ap length c.as_mut_slice.ensures.value in omega (arith, within, long))) in
    let items =
    with_items_is c.self.inside.volumes (slice_set c.as_mut_slice.result.now c.args.volume c.put.new.self)
    (length-set c.as_mut_slice.result.now c.args.volume c.put.new.self ∙ c.as_mut_slice.ensures.len)
    ∙ ap (λ (vs : List (Volume g.row.D.Denot g.row.D-Piece.Denot)). slice_set vs c.args.volume c.put.new.self) c.as_mut_slice.ensures.value in
    rw items
    (on_ok_weaker c.put.result (λ stores. (
      volume_seen volume,
      seen_at c.args.self.now store c.self.view_is c.args.volume volume at,
      volume_photos c.args.self.now store c.self.view_is c.args.volume volume c.put.new.self at (StoresSights c.args.pair (volume_seen volume).replicas) stores,
    )) c.put.ensures.sights)

pub returns-clause-refused_sights : goal.returns-clause-refused_sights
returns-clause-refused_sights g c =
    let store : Open g.row.D.Denot g.row.D-Piece.Denot g.row.A.Denot = record {
      settings = c.self.inside.settings;
      directory = c.self.inside.directory;
      volumes = c.self.inside.volumes.items;
      arms = c.self.inside.seats.items;
    } in
    let within : c.args.volume < length c.self.inside.volumes.items =
    let same = ap (λ (st : Open g.row.D.Denot g.row.D-Piece.Denot g.row.A.Denot). (st.settings).volumes) c.self.view_is in omega (arith, c.requires.volume, c.self.invariant.many, same) in
    let volume : Volume g.row.D.Denot g.row.D-Piece.Denot = slice_index_or c.as_mut_slice.result.now c.args.volume c.index-as_mut_slice-volume.result in
    let at : At store.volumes c.args.volume volume = subst (λ (vs : List (Volume g.row.D.Denot g.row.D-Piece.Denot)). At vs c.args.volume volume) c.as_mut_slice.ensures.value
    (at_read c.as_mut_slice.result.now c.args.volume c.index-as_mut_slice-volume.result (let long = ap length c.as_mut_slice.ensures.value in omega (arith, within, long))) in
    let items =
    with_items_is c.self.inside.volumes (slice_set c.as_mut_slice.result.now c.args.volume c.put.new.self)
    (length-set c.as_mut_slice.result.now c.args.volume c.put.new.self ∙ c.as_mut_slice.ensures.len)
    ∙ ap (λ (vs : List (Volume g.row.D.Denot g.row.D-Piece.Denot)). slice_set vs c.args.volume c.put.new.self) c.as_mut_slice.ensures.value in
    rw items (on_err_weaker c.put.result (volume_kept_photos c.args.self.now store c.self.view_is c.args.volume volume c.put.new.self at) c.put.ensures.refused_sights)
