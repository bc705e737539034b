use Rattle.std.proofs.Common.{◌≡◌, ◌⊎◌, ◌<◌, ℕ, List, None, Some, ap, length, refl, sym, subst, ◌∙◌, arith}
use Rattle.std.specs.Prelude.{Result, Ok, Err, slice_index_or, slice_set, IfErr, IfOk}
use Rattle.std.proofs.lemmas.List.{with_items_is}
use Rattle.std.proofs.lemmas.Option.{same_Some, slice_get_within}
use Rattle.std.proofs.lemmas.Result.{IfErr-at_err, IfErr-weaker, IfOk-at_ok, on_ok_weaker, on_err_weaker}
use borrow.Author.Rules.{scaled_Fits}
use Rattle.hay_needle.specs.declared.settings.Settings.{Settings}
use Rattle.hay_legal.specs.Known.{slot_of}
use Rattle.hay_logical.specs.Fits.{At}
use Rattle.hay_logical.specs.Volumes.{Volume}
use Rattle.hay_logical.proofs.Lists.{at_read}
use Rattle.hay_cluster.specs.Store.{Open, disks_of, contents_in}
use Rattle.hay_cluster.proofs.Calls.{called_open, called_up, replica_cause}
use Rattle.hay_cluster.proofs.Lists.{length-set, map-at, slice_get-set}
use Rattle.hay_cluster.proofs.Needling.{file_on, head_on}
use Rattle.hay_cluster.specs.Needles.{FreezesAt, LacksWork, LeadsPart, LeadsSwap, LeadsWork}
use Rattle.hay_cluster.specs.Maintenance.{HasSwapped, MayWantMemory}
use Rattle.hay_logical.specs.Sights.{Sights, sights_of}
use Rattle.hay_cluster.proofs.ClosingStore.{order_item}
use Rattle.hay_cluster.proofs.Moves.{Called, called_fuses, called_later, called_shape, in_volume, volume_of, with_one}
use Rattle.hay_cluster.specs.Leaving.{IsApart, LeavesIn, WorkKeeps}
use Rattle.hay_cluster.proofs.Leaving.{called_others, called_same, work_keeps}
use Rattle.hay_logical.specs.declared.fault.LogicalFault.{LogicalFault}
use Rattle.hay_physical.specs.OpenCopies.{volume_bytes}
use Rattle.hay_logical.specs.Seen.{SeesAt, VolumeSeen, replica_seen, volume_seen}
use Rattle.hay_cluster.specs.Seen.{VolumeAt, WorkRefusedSeen, WorkSeen, store_seen}
use Rattle.hay_cluster.proofs.Seeing.{seen_at, volume_moves}
use Rattle.std.proofs.lemmas.Result.{IfOk-weaker}
use Rattle.hay_cluster.proofs.Sighting.{photos_at, volume_photos, volume_kept_photos}
use Rattle.hay_cluster.specs.Sights.{DoneSights}
use Rattle.hay_cluster.proofs.cluster.Cluster.maintain_in.Goals as goal

if_ok_made : {T E : Type 0} (r : Result T E) (P : T → Type 0) → ((x : T) → r ≡ Ok x → P x) → IfOk r P
if_ok_made (Ok x) P makes = makes x refl
if_ok_made (Err e) P makes = tt

if_err_made : {T E : Type 0} (r : Result T E) (P : E → Type 0) → ((e : E) → r ≡ Err e → P e) → IfErr r P
if_err_made (Ok x) P makes = tt
if_err_made (Err e) P makes = makes e refl

pub offset_bounds-as_mut_slice-volume : goal.offset_bounds-as_mut_slice-volume
offset_bounds-as_mut_slice-volume g c =
    let within : c.args.volume < length c.self.inside.volumes.items =
    let same = ap (λ (st : Open g.row.D.Denot g.row.D-Piece.Denot g.row.A.Denot). (st.settings).volumes) c.self.view_is in omega (arith, c.requires.volume, c.self.invariant.many, same) in
    let long = ap length c.as_mut_slice.ensures.value in
    scaled_Fits c.args.volume (length c.as_mut_slice.result.now) _ (omega (arith, within, long)) c.as_mut_slice.type_inv.1

pub maintain-requires : goal.maintain-requires
maintain-requires g c =
    let store : Open g.row.D.Denot g.row.D-Piece.Denot g.row.A.Denot = record {
      settings = c.self.inside.settings;
      directory = c.self.inside.directory;
      volumes = c.self.inside.volumes.items;
      arms = c.self.inside.seats.items;
    } in
    let within : c.args.volume < length c.self.inside.volumes.items =
    let same = ap (λ (st : Open g.row.D.Denot g.row.D-Piece.Denot g.row.A.Denot). (st.settings).volumes) c.self.view_is in omega (arith, c.requires.volume, c.self.invariant.many, same) in
    let volume : Volume g.row.D.Denot g.row.D-Piece.Denot = slice_index_or c.as_mut_slice.result.now c.args.volume c.index-as_mut_slice-volume.result in
    let at : At store.volumes c.args.volume volume = subst (λ (vs : List (Volume g.row.D.Denot g.row.D-Piece.Denot)). At vs c.args.volume volume) c.as_mut_slice.ensures.value
    (at_read c.as_mut_slice.result.now c.args.volume c.index-as_mut_slice-volume.result (let long = ap length c.as_mut_slice.ensures.value in omega (arith, within, long))) in
    let was = volume_of store c.args.volume volume c.self.invariant at in
    let same = ap (λ (st : Open g.row.D.Denot g.row.D-Piece.Denot g.row.A.Denot). st.settings) c.self.view_is in
    let replica : c.args.replica < (volume.settings).replicas =
    subst (λ (s : Settings). c.args.replica < s.replicas) (sym was.settings_are) (subst (λ (s : Settings). c.args.replica < s.replicas) (sym same) c.requires.replica) in
    record { within = replica; «open» = called_open c.args.self.now store c.args.volume volume c.self.view_is at c.requires.up }

pub invariant_of-self : goal.invariant_of-self
invariant_of-self g c =
    let store : Open g.row.D.Denot g.row.D-Piece.Denot g.row.A.Denot = record {
      settings = c.self.inside.settings;
      directory = c.self.inside.directory;
      volumes = c.self.inside.volumes.items;
      arms = c.self.inside.seats.items;
    } in
    let within : c.args.volume < length c.self.inside.volumes.items =
    let same = ap (λ (st : Open g.row.D.Denot g.row.D-Piece.Denot g.row.A.Denot). (st.settings).volumes) c.self.view_is in omega (arith, c.requires.volume, c.self.invariant.many, same) in
    let volume : Volume g.row.D.Denot g.row.D-Piece.Denot = slice_index_or c.as_mut_slice.result.now c.args.volume c.index-as_mut_slice-volume.result in
    let at : At store.volumes c.args.volume volume = subst (λ (vs : List (Volume g.row.D.Denot g.row.D-Piece.Denot)). At vs c.args.volume volume) c.as_mut_slice.ensures.value
    (at_read c.as_mut_slice.result.now c.args.volume c.index-as_mut_slice-volume.result (let long = ap length c.as_mut_slice.ensures.value in omega (arith, within, long))) in
    let items =
    with_items_is c.self.inside.volumes (slice_set c.as_mut_slice.result.now c.args.volume c.maintain.new.volume)
    (length-set c.as_mut_slice.result.now c.args.volume c.maintain.new.volume ∙ c.as_mut_slice.ensures.len)
    ∙ ap (λ (vs : List (Volume g.row.D.Denot g.row.D-Piece.Denot)). slice_set vs c.args.volume c.maintain.new.volume) c.as_mut_slice.ensures.value in
    let called : Called g.D.Disk.fault_count g.D.Disk.fuse_count store c.args.volume volume c.maintain.new.volume = record {
      at = at;
      same = c.maintain.ensures.same;
      counts = c.maintain.ensures.counts;
    } in
    rw items (called_shape g.D.Disk.fault_count g.D.Disk.fuse_count store c.args.volume volume c.maintain.new.volume c.self.invariant called)

pub returns-clause-moves : goal.returns-clause-moves
returns-clause-moves g c = λ tells k stands.
    let store : Open g.row.D.Denot g.row.D-Piece.Denot g.row.A.Denot = record {
      settings = c.self.inside.settings;
      directory = c.self.inside.directory;
      volumes = c.self.inside.volumes.items;
      arms = c.self.inside.seats.items;
    } in
    let within : c.args.volume < length c.self.inside.volumes.items =
    let same = ap (λ (st : Open g.row.D.Denot g.row.D-Piece.Denot g.row.A.Denot). (st.settings).volumes) c.self.view_is in omega (arith, c.requires.volume, c.self.invariant.many, same) in
    let volume : Volume g.row.D.Denot g.row.D-Piece.Denot = slice_index_or c.as_mut_slice.result.now c.args.volume c.index-as_mut_slice-volume.result in
    let at : At store.volumes c.args.volume volume = subst (λ (vs : List (Volume g.row.D.Denot g.row.D-Piece.Denot)). At vs c.args.volume volume) c.as_mut_slice.ensures.value
    (at_read c.as_mut_slice.result.now c.args.volume c.index-as_mut_slice-volume.result (let long = ap length c.as_mut_slice.ensures.value in omega (arith, within, long))) in
    let items =
    with_items_is c.self.inside.volumes (slice_set c.as_mut_slice.result.now c.args.volume c.maintain.new.volume)
    (length-set c.as_mut_slice.result.now c.args.volume c.maintain.new.volume ∙ c.as_mut_slice.ensures.len)
    ∙ ap (λ (vs : List (Volume g.row.D.Denot g.row.D-Piece.Denot)). slice_set vs c.args.volume c.maintain.new.volume) c.as_mut_slice.ensures.value in
    let called : Called g.D.Disk.fault_count g.D.Disk.fuse_count store c.args.volume volume c.maintain.new.volume = record {
      at = at;
      same = c.maintain.ensures.same;
      counts = c.maintain.ensures.counts;
    } in
    rw items
    (in_volume g.D.Disk.files g.D.Piece.Piece.Tells g.D.Disk.fault_count g.D.Disk.fuse_count g.A.Arm.fault_count c.args.self.now store k c.args.volume volume c.maintain.new.volume
    _ c.self.view_is c.self.invariant called stands
    (λ stood. (c.maintain.ensures.done tells _ stood, c.maintain.ensures.refused tells _ stood)))

pub returns-clause-causes : goal.returns-clause-causes
returns-clause-causes g c =
    let store : Open g.row.D.Denot g.row.D-Piece.Denot g.row.A.Denot = record {
      settings = c.self.inside.settings;
      directory = c.self.inside.directory;
      volumes = c.self.inside.volumes.items;
      arms = c.self.inside.seats.items;
    } in
    let within : c.args.volume < length c.self.inside.volumes.items =
    let same = ap (λ (st : Open g.row.D.Denot g.row.D-Piece.Denot g.row.A.Denot). (st.settings).volumes) c.self.view_is in omega (arith, c.requires.volume, c.self.invariant.many, same) in
    let volume : Volume g.row.D.Denot g.row.D-Piece.Denot = slice_index_or c.as_mut_slice.result.now c.args.volume c.index-as_mut_slice-volume.result in
    let at : At store.volumes c.args.volume volume = subst (λ (vs : List (Volume g.row.D.Denot g.row.D-Piece.Denot)). At vs c.args.volume volume) c.as_mut_slice.ensures.value
    (at_read c.as_mut_slice.result.now c.args.volume c.index-as_mut_slice-volume.result (let long = ap length c.as_mut_slice.ensures.value in omega (arith, within, long))) in
    let items =
    with_items_is c.self.inside.volumes (slice_set c.as_mut_slice.result.now c.args.volume c.maintain.new.volume)
    (length-set c.as_mut_slice.result.now c.args.volume c.maintain.new.volume ∙ c.as_mut_slice.ensures.len)
    ∙ ap (λ (vs : List (Volume g.row.D.Denot g.row.D-Piece.Denot)). slice_set vs c.args.volume c.maintain.new.volume) c.as_mut_slice.ensures.value in
    let called : Called g.D.Disk.fault_count g.D.Disk.fuse_count store c.args.volume volume c.maintain.new.volume = record {
      at = at;
      same = c.maintain.ensures.same;
      counts = c.maintain.ensures.counts;
    } in
    rw items
    (IfErr-weaker c.maintain.result _ _ (replica_cause g.D.Disk.fault_count g.D.Disk.fuse_count c.args.self.now store c.args.volume c.args.replica volume c.maintain.new.volume
    c.self.view_is c.self.invariant called c.requires.replica c.args.work) c.maintain.ensures.causes)

pub returns-clause-counts : goal.returns-clause-counts
returns-clause-counts g c =
    let store : Open g.row.D.Denot g.row.D-Piece.Denot g.row.A.Denot = record {
      settings = c.self.inside.settings;
      directory = c.self.inside.directory;
      volumes = c.self.inside.volumes.items;
      arms = c.self.inside.seats.items;
    } in
    let within : c.args.volume < length c.self.inside.volumes.items =
    let same = ap (λ (st : Open g.row.D.Denot g.row.D-Piece.Denot g.row.A.Denot). (st.settings).volumes) c.self.view_is in omega (arith, c.requires.volume, c.self.invariant.many, same) in
    let volume : Volume g.row.D.Denot g.row.D-Piece.Denot = slice_index_or c.as_mut_slice.result.now c.args.volume c.index-as_mut_slice-volume.result in
    let at : At store.volumes c.args.volume volume = subst (λ (vs : List (Volume g.row.D.Denot g.row.D-Piece.Denot)). At vs c.args.volume volume) c.as_mut_slice.ensures.value
    (at_read c.as_mut_slice.result.now c.args.volume c.index-as_mut_slice-volume.result (let long = ap length c.as_mut_slice.ensures.value in omega (arith, within, long))) in
    let items =
    with_items_is c.self.inside.volumes (slice_set c.as_mut_slice.result.now c.args.volume c.maintain.new.volume)
    (length-set c.as_mut_slice.result.now c.args.volume c.maintain.new.volume ∙ c.as_mut_slice.ensures.len)
    ∙ ap (λ (vs : List (Volume g.row.D.Denot g.row.D-Piece.Denot)). slice_set vs c.args.volume c.maintain.new.volume) c.as_mut_slice.ensures.value in
    let called : Called g.D.Disk.fault_count g.D.Disk.fuse_count store c.args.volume volume c.maintain.new.volume = record {
      at = at;
      same = c.maintain.ensures.same;
      counts = c.maintain.ensures.counts;
    } in
    rw items (called_later g.D.Disk.fault_count g.D.Disk.fuse_count c.args.self.now store c.args.volume volume c.maintain.new.volume c.self.view_is called)

pub returns-clause-up : goal.returns-clause-up
returns-clause-up g c =
    let store : Open g.row.D.Denot g.row.D-Piece.Denot g.row.A.Denot = record {
      settings = c.self.inside.settings;
      directory = c.self.inside.directory;
      volumes = c.self.inside.volumes.items;
      arms = c.self.inside.seats.items;
    } in
    let items =
    with_items_is c.self.inside.volumes (slice_set c.as_mut_slice.result.now c.args.volume c.maintain.new.volume)
    (length-set c.as_mut_slice.result.now c.args.volume c.maintain.new.volume ∙ c.as_mut_slice.ensures.len)
    ∙ ap (λ (vs : List (Volume g.row.D.Denot g.row.D-Piece.Denot)). slice_set vs c.args.volume c.maintain.new.volume) c.as_mut_slice.ensures.value in
    rw items (called_up c.args.self.now store c.args.volume c.maintain.new.volume c.self.view_is c.requires.up c.maintain.ensures.«open»)

pub returns-clause-fuses : goal.returns-clause-fuses
returns-clause-fuses g c =
    let store : Open g.row.D.Denot g.row.D-Piece.Denot g.row.A.Denot = record {
      settings = c.self.inside.settings;
      directory = c.self.inside.directory;
      volumes = c.self.inside.volumes.items;
      arms = c.self.inside.seats.items;
    } in
    let within : c.args.volume < length c.self.inside.volumes.items =
    let same = ap (λ (st : Open g.row.D.Denot g.row.D-Piece.Denot g.row.A.Denot). (st.settings).volumes) c.self.view_is in omega (arith, c.requires.volume, c.self.invariant.many, same) in
    let volume : Volume g.row.D.Denot g.row.D-Piece.Denot = slice_index_or c.as_mut_slice.result.now c.args.volume c.index-as_mut_slice-volume.result in
    let at : At store.volumes c.args.volume volume = subst (λ (vs : List (Volume g.row.D.Denot g.row.D-Piece.Denot)). At vs c.args.volume volume) c.as_mut_slice.ensures.value
    (at_read c.as_mut_slice.result.now c.args.volume c.index-as_mut_slice-volume.result (let long = ap length c.as_mut_slice.ensures.value in omega (arith, within, long))) in
    let items =
    with_items_is c.self.inside.volumes (slice_set c.as_mut_slice.result.now c.args.volume c.maintain.new.volume)
    (length-set c.as_mut_slice.result.now c.args.volume c.maintain.new.volume ∙ c.as_mut_slice.ensures.len)
    ∙ ap (λ (vs : List (Volume g.row.D.Denot g.row.D-Piece.Denot)). slice_set vs c.args.volume c.maintain.new.volume) c.as_mut_slice.ensures.value in
    let called : Called g.D.Disk.fault_count g.D.Disk.fuse_count store c.args.volume volume c.maintain.new.volume = record {
      at = at;
      same = c.maintain.ensures.same;
      counts = c.maintain.ensures.counts;
    } in
    rw items (called_fuses g.D.Disk.fault_count g.D.Disk.fuse_count c.args.self.now store c.args.volume volume c.maintain.new.volume c.self.view_is called)

pub returns-clause-others : goal.returns-clause-others
returns-clause-others g c =
    let store : Open g.row.D.Denot g.row.D-Piece.Denot g.row.A.Denot = record {
      settings = c.self.inside.settings;
      directory = c.self.inside.directory;
      volumes = c.self.inside.volumes.items;
      arms = c.self.inside.seats.items;
    } in
    let within : c.args.volume < length c.self.inside.volumes.items =
    let same = ap (λ (st : Open g.row.D.Denot g.row.D-Piece.Denot g.row.A.Denot). (st.settings).volumes) c.self.view_is in omega (arith, c.requires.volume, c.self.invariant.many, same) in
    let volume : Volume g.row.D.Denot g.row.D-Piece.Denot = slice_index_or c.as_mut_slice.result.now c.args.volume c.index-as_mut_slice-volume.result in
    let at : At store.volumes c.args.volume volume = subst (λ (vs : List (Volume g.row.D.Denot g.row.D-Piece.Denot)). At vs c.args.volume volume) c.as_mut_slice.ensures.value
    (at_read c.as_mut_slice.result.now c.args.volume c.index-as_mut_slice-volume.result (let long = ap length c.as_mut_slice.ensures.value in omega (arith, within, long))) in
    let items =
    with_items_is c.self.inside.volumes (slice_set c.as_mut_slice.result.now c.args.volume c.maintain.new.volume)
    (length-set c.as_mut_slice.result.now c.args.volume c.maintain.new.volume ∙ c.as_mut_slice.ensures.len)
    ∙ ap (λ (vs : List (Volume g.row.D.Denot g.row.D-Piece.Denot)). slice_set vs c.args.volume c.maintain.new.volume) c.as_mut_slice.ensures.value in
    subst (λ (vs : List (Volume g.row.D.Denot g.row.D-Piece.Denot)). LeavesIn (IsApart (c.args.self.now).settings c.args.volume c.args.replica) (disks_of c.args.self.now)
    (disks_of (let next : Open g.row.D.Denot g.row.D-Piece.Denot g.row.A.Denot = record store { volumes = vs } in next))) (sym items)
    (called_others c.args.self.now store c.args.volume c.args.replica volume c.maintain.new.volume c.self.view_is c.self.invariant at (c.maintain.ensures.counts).count c.maintain.ensures.others)

pub returns-clause-kept : goal.returns-clause-kept
returns-clause-kept g c = λ tells.
    let store : Open g.row.D.Denot g.row.D-Piece.Denot g.row.A.Denot = record {
      settings = c.self.inside.settings;
      directory = c.self.inside.directory;
      volumes = c.self.inside.volumes.items;
      arms = c.self.inside.seats.items;
    } in
    let within : c.args.volume < length c.self.inside.volumes.items =
    let same = ap (λ (st : Open g.row.D.Denot g.row.D-Piece.Denot g.row.A.Denot). (st.settings).volumes) c.self.view_is in omega (arith, c.requires.volume, c.self.invariant.many, same) in
    let volume : Volume g.row.D.Denot g.row.D-Piece.Denot = slice_index_or c.as_mut_slice.result.now c.args.volume c.index-as_mut_slice-volume.result in
    let at : At store.volumes c.args.volume volume = subst (λ (vs : List (Volume g.row.D.Denot g.row.D-Piece.Denot)). At vs c.args.volume volume) c.as_mut_slice.ensures.value
    (at_read c.as_mut_slice.result.now c.args.volume c.index-as_mut_slice-volume.result (let long = ap length c.as_mut_slice.ensures.value in omega (arith, within, long))) in
    let items =
    with_items_is c.self.inside.volumes (slice_set c.as_mut_slice.result.now c.args.volume c.maintain.new.volume)
    (length-set c.as_mut_slice.result.now c.args.volume c.maintain.new.volume ∙ c.as_mut_slice.ensures.len)
    ∙ ap (λ (vs : List (Volume g.row.D.Denot g.row.D-Piece.Denot)). slice_set vs c.args.volume c.maintain.new.volume) c.as_mut_slice.ensures.value in
    let settings = (c.args.self.now).settings in
    subst (λ (vs : List (Volume g.row.D.Denot g.row.D-Piece.Denot)). let next : Open g.row.D.Denot g.row.D-Piece.Denot g.row.A.Denot = record store { volumes = vs } in
    IfErr c.maintain.result (WorkKeeps settings (contents_in g.D.Disk.files c.args.self.now) (contents_in g.D.Disk.files next))) (sym items)
    (IfErr-weaker c.maintain.result _ _ (λ fault untouched. work_keeps settings _ _ fault
    (λ is. called_same g.D.Disk.files settings c.args.self.now store c.args.volume volume c.maintain.new.volume c.self.view_is at (untouched is))) c.maintain.ensures.untouched)

pub returns-clause-seen : goal.returns-clause-seen
returns-clause-seen g c =
    let store : Open g.row.D.Denot g.row.D-Piece.Denot g.row.A.Denot = record {
      settings = c.self.inside.settings;
      directory = c.self.inside.directory;
      volumes = c.self.inside.volumes.items;
      arms = c.self.inside.seats.items;
    } in
    let within : c.args.volume < length c.self.inside.volumes.items =
    let same = ap (λ (st : Open g.row.D.Denot g.row.D-Piece.Denot g.row.A.Denot). (st.settings).volumes) c.self.view_is in omega (arith, c.requires.volume, c.self.invariant.many, same) in
    let volume : Volume g.row.D.Denot g.row.D-Piece.Denot = slice_index_or c.as_mut_slice.result.now c.args.volume c.index-as_mut_slice-volume.result in
    let at : At store.volumes c.args.volume volume = subst (λ (vs : List (Volume g.row.D.Denot g.row.D-Piece.Denot)). At vs c.args.volume volume) c.as_mut_slice.ensures.value
    (at_read c.as_mut_slice.result.now c.args.volume c.index-as_mut_slice-volume.result (let long = ap length c.as_mut_slice.ensures.value in omega (arith, within, long))) in
    let items =
    with_items_is c.self.inside.volumes (slice_set c.as_mut_slice.result.now c.args.volume c.maintain.new.volume)
    (length-set c.as_mut_slice.result.now c.args.volume c.maintain.new.volume ∙ c.as_mut_slice.ensures.len)
    ∙ ap (λ (vs : List (Volume g.row.D.Denot g.row.D-Piece.Denot)). slice_set vs c.args.volume c.maintain.new.volume) c.as_mut_slice.ensures.value in
    rw items
    (IfOk-weaker c.maintain.result _ _ (λ number moves. volume_moves c.args.self.now store c.self.view_is c.args.volume volume c.maintain.new.volume
    (WorkSeen c.args.work c.args.replica number) at moves) c.maintain.ensures.seen)

pub returns-clause-refused_seen : goal.returns-clause-refused_seen
returns-clause-refused_seen g c =
    let store : Open g.row.D.Denot g.row.D-Piece.Denot g.row.A.Denot = record {
      settings = c.self.inside.settings;
      directory = c.self.inside.directory;
      volumes = c.self.inside.volumes.items;
      arms = c.self.inside.seats.items;
    } in
    let within : c.args.volume < length c.self.inside.volumes.items =
    let same = ap (λ (st : Open g.row.D.Denot g.row.D-Piece.Denot g.row.A.Denot). (st.settings).volumes) c.self.view_is in omega (arith, c.requires.volume, c.self.invariant.many, same) in
    let volume : Volume g.row.D.Denot g.row.D-Piece.Denot = slice_index_or c.as_mut_slice.result.now c.args.volume c.index-as_mut_slice-volume.result in
    let at : At store.volumes c.args.volume volume = subst (λ (vs : List (Volume g.row.D.Denot g.row.D-Piece.Denot)). At vs c.args.volume volume) c.as_mut_slice.ensures.value
    (at_read c.as_mut_slice.result.now c.args.volume c.index-as_mut_slice-volume.result (let long = ap length c.as_mut_slice.ensures.value in omega (arith, within, long))) in
    let items =
    with_items_is c.self.inside.volumes (slice_set c.as_mut_slice.result.now c.args.volume c.maintain.new.volume)
    (length-set c.as_mut_slice.result.now c.args.volume c.maintain.new.volume ∙ c.as_mut_slice.ensures.len)
    ∙ ap (λ (vs : List (Volume g.row.D.Denot g.row.D-Piece.Denot)). slice_set vs c.args.volume c.maintain.new.volume) c.as_mut_slice.ensures.value in
    let was = volume_of store c.args.volume volume c.self.invariant at in
    let same = was.settings_are ∙ ap (λ (st : Open g.row.D.Denot g.row.D-Piece.Denot g.row.A.Denot). st.settings) c.self.view_is in
    let Refused : Settings → ℕ → LogicalFault → Type 0 = λ s n fault. WorkRefusedSeen s c.args.work n c.args.replica fault (volume_seen volume) (volume_seen c.maintain.new.volume) in
    rw items
    (IfErr-weaker c.maintain.result _ _ (λ fault moves. volume_moves c.args.self.now store c.self.view_is c.args.volume volume c.maintain.new.volume
    (WorkRefusedSeen (c.args.self.now).settings c.args.work c.args.volume c.args.replica fault) at
    (subst (λ s. Refused s c.args.volume fault) same (subst (λ n. Refused volume.settings n fault) was.number moves))) c.maintain.ensures.refused_seen)

pub returns-clause-sights : goal.returns-clause-sights
returns-clause-sights g c =
    let store : Open g.row.D.Denot g.row.D-Piece.Denot g.row.A.Denot = record {
      settings = c.self.inside.settings;
      directory = c.self.inside.directory;
      volumes = c.self.inside.volumes.items;
      arms = c.self.inside.seats.items;
    } in
    let within : c.args.volume < length c.self.inside.volumes.items =
    let same = ap (λ (st : Open g.row.D.Denot g.row.D-Piece.Denot g.row.A.Denot). (st.settings).volumes) c.self.view_is in omega (arith, c.requires.volume, c.self.invariant.many, same) in
    let volume : Volume g.row.D.Denot g.row.D-Piece.Denot = slice_index_or c.as_mut_slice.result.now c.args.volume c.index-as_mut_slice-volume.result in
    let at : At store.volumes c.args.volume volume = subst (λ (vs : List (Volume g.row.D.Denot g.row.D-Piece.Denot)). At vs c.args.volume volume) c.as_mut_slice.ensures.value
    (at_read c.as_mut_slice.result.now c.args.volume c.index-as_mut_slice-volume.result (let long = ap length c.as_mut_slice.ensures.value in omega (arith, within, long))) in
    let items =
    with_items_is c.self.inside.volumes (slice_set c.as_mut_slice.result.now c.args.volume c.maintain.new.volume)
    (length-set c.as_mut_slice.result.now c.args.volume c.maintain.new.volume ∙ c.as_mut_slice.ensures.len)
    ∙ ap (λ (vs : List (Volume g.row.D.Denot g.row.D-Piece.Denot)). slice_set vs c.args.volume c.maintain.new.volume) c.as_mut_slice.ensures.value in
    rw items
    (on_ok_weaker c.maintain.result (λ done. (
      volume_seen c.maintain.new.volume,
      map-at volume_seen (slice_set store.volumes c.args.volume c.maintain.new.volume) c.args.volume c.maintain.new.volume (slice_get-set store.volumes c.args.volume volume c.maintain.new.volume at),
      volume_photos c.args.self.now store c.self.view_is c.args.volume volume c.maintain.new.volume at (DoneSights c.args.work c.args.replica (volume_seen c.maintain.new.volume)) done,
    )) c.maintain.ensures.sights)

pub returns-clause-refused_sights : goal.returns-clause-refused_sights
returns-clause-refused_sights g c =
    let store : Open g.row.D.Denot g.row.D-Piece.Denot g.row.A.Denot = record {
      settings = c.self.inside.settings;
      directory = c.self.inside.directory;
      volumes = c.self.inside.volumes.items;
      arms = c.self.inside.seats.items;
    } in
    let within : c.args.volume < length c.self.inside.volumes.items =
    let same = ap (λ (st : Open g.row.D.Denot g.row.D-Piece.Denot g.row.A.Denot). (st.settings).volumes) c.self.view_is in omega (arith, c.requires.volume, c.self.invariant.many, same) in
    let volume : Volume g.row.D.Denot g.row.D-Piece.Denot = slice_index_or c.as_mut_slice.result.now c.args.volume c.index-as_mut_slice-volume.result in
    let at : At store.volumes c.args.volume volume = subst (λ (vs : List (Volume g.row.D.Denot g.row.D-Piece.Denot)). At vs c.args.volume volume) c.as_mut_slice.ensures.value
    (at_read c.as_mut_slice.result.now c.args.volume c.index-as_mut_slice-volume.result (let long = ap length c.as_mut_slice.ensures.value in omega (arith, within, long))) in
    let items =
    with_items_is c.self.inside.volumes (slice_set c.as_mut_slice.result.now c.args.volume c.maintain.new.volume)
    (length-set c.as_mut_slice.result.now c.args.volume c.maintain.new.volume ∙ c.as_mut_slice.ensures.len)
    ∙ ap (λ (vs : List (Volume g.row.D.Denot g.row.D-Piece.Denot)). slice_set vs c.args.volume c.maintain.new.volume) c.as_mut_slice.ensures.value in
    rw items
    (on_err_weaker c.maintain.result (volume_kept_photos c.args.self.now store c.self.view_is c.args.volume volume c.maintain.new.volume at) c.maintain.ensures.refused_sights)

pub returns-clause-damaged : goal.returns-clause-damaged
returns-clause-damaged g c = λ tells m place is.
    let store : Open g.row.D.Denot g.row.D-Piece.Denot g.row.A.Denot = record {
      settings = c.self.inside.settings;
      directory = c.self.inside.directory;
      volumes = c.self.inside.volumes.items;
      arms = c.self.inside.seats.items;
    } in
    let within : c.args.volume < length c.self.inside.volumes.items =
    let same = ap (λ (st : Open g.row.D.Denot g.row.D-Piece.Denot g.row.A.Denot). (st.settings).volumes) c.self.view_is in omega (arith, c.requires.volume, c.self.invariant.many, same) in
    let volume : Volume g.row.D.Denot g.row.D-Piece.Denot = slice_index_or c.as_mut_slice.result.now c.args.volume c.index-as_mut_slice-volume.result in
    let at : At store.volumes c.args.volume volume = subst (λ (vs : List (Volume g.row.D.Denot g.row.D-Piece.Denot)). At vs c.args.volume volume) c.as_mut_slice.ensures.value
    (at_read c.as_mut_slice.result.now c.args.volume c.index-as_mut_slice-volume.result (let long = ap length c.as_mut_slice.ensures.value in omega (arith, within, long))) in
    let seen : (store_seen c.args.self.now).places c.args.volume ≡ sights_of volume.rows = photos_at c.args.self.now store c.self.view_is c.args.volume volume at in
    file_on g.D.Disk.files c.args.self.now store c.self.view_is c.self.invariant c.args.volume volume at
    (LacksWork ((store_seen c.args.self.now).places c.args.volume) c.args.replica c.args.work place) c.args.replica c.requires.replica
    (λ r there. subst (λ (sights : Sights). LacksWork sights c.args.replica c.args.work place (replica_seen r) (volume_bytes g.D.Disk.files r)) (sym seen)
    (c.maintain.ensures.damaged tells m place is r there))

pub returns-clause-lead : goal.returns-clause-lead
returns-clause-lead g c = λ tells.
    let store : Open g.row.D.Denot g.row.D-Piece.Denot g.row.A.Denot = record {
      settings = c.self.inside.settings;
      directory = c.self.inside.directory;
      volumes = c.self.inside.volumes.items;
      arms = c.self.inside.seats.items;
    } in
    let within : c.args.volume < length c.self.inside.volumes.items =
    let same = ap (λ (st : Open g.row.D.Denot g.row.D-Piece.Denot g.row.A.Denot). (st.settings).volumes) c.self.view_is in omega (arith, c.requires.volume, c.self.invariant.many, same) in
    let volume : Volume g.row.D.Denot g.row.D-Piece.Denot = slice_index_or c.as_mut_slice.result.now c.args.volume c.index-as_mut_slice-volume.result in
    let at : At store.volumes c.args.volume volume = subst (λ (vs : List (Volume g.row.D.Denot g.row.D-Piece.Denot)). At vs c.args.volume volume) c.as_mut_slice.ensures.value
    (at_read c.as_mut_slice.result.now c.args.volume c.index-as_mut_slice-volume.result (let long = ap length c.as_mut_slice.ensures.value in omega (arith, within, long))) in
    let items =
    with_items_is c.self.inside.volumes (slice_set c.as_mut_slice.result.now c.args.volume c.maintain.new.volume)
    (length-set c.as_mut_slice.result.now c.args.volume c.maintain.new.volume ∙ c.as_mut_slice.ensures.len)
    ∙ ap (λ (vs : List (Volume g.row.D.Denot g.row.D-Piece.Denot)). slice_set vs c.args.volume c.maintain.new.volume) c.as_mut_slice.ensures.value in
    let after = c.maintain.new.volume in
    let next : Open g.row.D.Denot g.row.D-Piece.Denot g.row.A.Denot = with_one store c.args.volume after in
    let many = (c.maintain.ensures.counts).count in
    let seen : (store_seen c.args.self.now).places c.args.volume ≡ sights_of volume.rows = photos_at c.args.self.now store c.self.view_is c.args.volume volume at in
    rw items
    (if_ok_made c.maintain.result _
    (λ number is. file_on g.D.Disk.files c.args.self.now store c.self.view_is c.self.invariant c.args.volume volume at
    (λ r file. VolumeAt c.args.volume (SeesAt c.args.replica (λ r'. LeadsWork ((store_seen c.args.self.now).places c.args.volume) c.args.replica c.args.work number r r' file))
    (store_seen next)) c.args.replica c.requires.replica
    (λ r was.
    let low = slice_get_within volume.replicas c.args.replica r was in
    let r' = order_item after.replicas c.args.replica (let less : c.args.replica < length after.replicas = omega (arith, low, many) in less) in (
      volume_seen after,
      map-at volume_seen (slice_set store.volumes c.args.volume after) c.args.volume after (slice_get-set store.volumes c.args.volume volume after at),
      (
        replica_seen r'.0,
        map-at replica_seen after.replicas c.args.replica r'.0 r'.1,
        subst (λ (sights : Sights). LeadsWork sights c.args.replica c.args.work number (replica_seen r) (replica_seen r'.0) (volume_bytes g.D.Disk.files r)) (sym seen)
            (IfOk-at_ok (λ n. LeadsWork (sights_of volume.rows) c.args.replica c.args.work n (replica_seen r) (replica_seen r'.0) (volume_bytes g.D.Disk.files r)) is
            (c.maintain.ensures.lead tells r r'.0 was r'.1)),
      ),
    ))))

pub returns-clause-part : goal.returns-clause-part
returns-clause-part g c = λ tells.
    let store : Open g.row.D.Denot g.row.D-Piece.Denot g.row.A.Denot = record {
      settings = c.self.inside.settings;
      directory = c.self.inside.directory;
      volumes = c.self.inside.volumes.items;
      arms = c.self.inside.seats.items;
    } in
    let within : c.args.volume < length c.self.inside.volumes.items =
    let same = ap (λ (st : Open g.row.D.Denot g.row.D-Piece.Denot g.row.A.Denot). (st.settings).volumes) c.self.view_is in omega (arith, c.requires.volume, c.self.invariant.many, same) in
    let volume : Volume g.row.D.Denot g.row.D-Piece.Denot = slice_index_or c.as_mut_slice.result.now c.args.volume c.index-as_mut_slice-volume.result in
    let at : At store.volumes c.args.volume volume = subst (λ (vs : List (Volume g.row.D.Denot g.row.D-Piece.Denot)). At vs c.args.volume volume) c.as_mut_slice.ensures.value
    (at_read c.as_mut_slice.result.now c.args.volume c.index-as_mut_slice-volume.result (let long = ap length c.as_mut_slice.ensures.value in omega (arith, within, long))) in
    let items =
    with_items_is c.self.inside.volumes (slice_set c.as_mut_slice.result.now c.args.volume c.maintain.new.volume)
    (length-set c.as_mut_slice.result.now c.args.volume c.maintain.new.volume ∙ c.as_mut_slice.ensures.len)
    ∙ ap (λ (vs : List (Volume g.row.D.Denot g.row.D-Piece.Denot)). slice_set vs c.args.volume c.maintain.new.volume) c.as_mut_slice.ensures.value in
    let after = c.maintain.new.volume in
    let next : Open g.row.D.Denot g.row.D-Piece.Denot g.row.A.Denot = with_one store c.args.volume after in
    let many = (c.maintain.ensures.counts).count in
    let seen : (store_seen c.args.self.now).places c.args.volume ≡ sights_of volume.rows = photos_at c.args.self.now store c.self.view_is c.args.volume volume at in
    rw items
    (if_err_made c.maintain.result _
    (λ fault is wants. file_on g.D.Disk.files c.args.self.now store c.self.view_is c.self.invariant c.args.volume volume at
    (λ r file. VolumeAt c.args.volume (SeesAt c.args.replica (λ r'. LeadsPart ((store_seen c.args.self.now).places c.args.volume) c.args.replica c.args.work r r' file))
    (store_seen next)) c.args.replica c.requires.replica
    (λ r was.
    let low = slice_get_within volume.replicas c.args.replica r was in
    let r' = order_item after.replicas c.args.replica (let less : c.args.replica < length after.replicas = omega (arith, low, many) in less) in (
      volume_seen after,
      map-at volume_seen (slice_set store.volumes c.args.volume after) c.args.volume after (slice_get-set store.volumes c.args.volume volume after at),
      (
        replica_seen r'.0,
        map-at replica_seen after.replicas c.args.replica r'.0 r'.1,
        subst (λ (sights : Sights). LeadsPart sights c.args.replica c.args.work (replica_seen r) (replica_seen r'.0) (volume_bytes g.D.Disk.files r)) (sym seen)
            (IfErr-at_err (λ f. MayWantMemory f → LeadsPart (sights_of volume.rows) c.args.replica c.args.work (replica_seen r) (replica_seen r'.0) (volume_bytes g.D.Disk.files r))
            is (c.maintain.ensures.part tells r r'.0 was r'.1) wants),
      ),
    ))))

pub returns-clause-froze : goal.returns-clause-froze
returns-clause-froze g c = λ tells freezes.
    let store : Open g.row.D.Denot g.row.D-Piece.Denot g.row.A.Denot = record {
      settings = c.self.inside.settings;
      directory = c.self.inside.directory;
      volumes = c.self.inside.volumes.items;
      arms = c.self.inside.seats.items;
    } in
    let within : c.args.volume < length c.self.inside.volumes.items =
    let same = ap (λ (st : Open g.row.D.Denot g.row.D-Piece.Denot g.row.A.Denot). (st.settings).volumes) c.self.view_is in omega (arith, c.requires.volume, c.self.invariant.many, same) in
    let volume : Volume g.row.D.Denot g.row.D-Piece.Denot = slice_index_or c.as_mut_slice.result.now c.args.volume c.index-as_mut_slice-volume.result in
    let at : At store.volumes c.args.volume volume = subst (λ (vs : List (Volume g.row.D.Denot g.row.D-Piece.Denot)). At vs c.args.volume volume) c.as_mut_slice.ensures.value
    (at_read c.as_mut_slice.result.now c.args.volume c.index-as_mut_slice-volume.result (let long = ap length c.as_mut_slice.ensures.value in omega (arith, within, long))) in
    let items =
    with_items_is c.self.inside.volumes (slice_set c.as_mut_slice.result.now c.args.volume c.maintain.new.volume)
    (length-set c.as_mut_slice.result.now c.args.volume c.maintain.new.volume ∙ c.as_mut_slice.ensures.len)
    ∙ ap (λ (vs : List (Volume g.row.D.Denot g.row.D-Piece.Denot)). slice_set vs c.args.volume c.maintain.new.volume) c.as_mut_slice.ensures.value in
    let after = c.maintain.new.volume in
    let next : Open g.row.D.Denot g.row.D-Piece.Denot g.row.A.Denot = with_one store c.args.volume after in
    let seen : (store_seen c.args.self.now).places c.args.volume ≡ sights_of volume.rows = photos_at c.args.self.now store c.self.view_is c.args.volume volume at in
    let froze : FreezesAt c.args.volume (store_seen c.args.self.now) (store_seen next) =
    subst (λ (vs : List (Volume g.row.D.Denot g.row.D-Piece.Denot)). FreezesAt c.args.volume (store_seen c.args.self.now) (store_seen (record store { volumes = vs }))) items freezes in
    let was : At (store_seen c.args.self.now).volumes c.args.volume (volume_seen volume) = seen_at c.args.self.now store c.self.view_is c.args.volume volume at in
    let now : At (store_seen next).volumes c.args.volume (volume_seen after) =
    map-at volume_seen (slice_set store.volumes c.args.volume after) c.args.volume after (slice_get-set store.volumes c.args.volume volume after at) in
    let before = froze.0 in
    let behind = froze.2 in
    let thawed : volume.frozen ≡ None = ap (λ (w : VolumeSeen). w.frozen) (same_Some (volume_seen volume) before.0 (sym was ∙ before.1)) ∙ before.2 in
    let frozen : after.frozen ≡ Some froze.1 = ap (λ (w : VolumeSeen). w.frozen) (same_Some (volume_seen after) behind.0 (sym now ∙ behind.1)) ∙ behind.2 in
    file_on g.D.Disk.files c.args.self.now store c.self.view_is c.self.invariant c.args.volume volume at
    (LeadsSwap ((store_seen c.args.self.now).places c.args.volume) c.args.replica c.args.work) c.args.replica c.requires.replica
    (λ r there. subst (λ (sights : Sights). LeadsSwap sights c.args.replica c.args.work (replica_seen r) (volume_bytes g.D.Disk.files r)) (sym seen)
    (c.maintain.ensures.froze tells thawed froze.1 frozen r there))

pub returns-clause-head_file : goal.returns-clause-head_file
returns-clause-head_file g c = λ tells.
    let store : Open g.row.D.Denot g.row.D-Piece.Denot g.row.A.Denot = record {
      settings = c.self.inside.settings;
      directory = c.self.inside.directory;
      volumes = c.self.inside.volumes.items;
      arms = c.self.inside.seats.items;
    } in
    let within : c.args.volume < length c.self.inside.volumes.items =
    let same = ap (λ (st : Open g.row.D.Denot g.row.D-Piece.Denot g.row.A.Denot). (st.settings).volumes) c.self.view_is in omega (arith, c.requires.volume, c.self.invariant.many, same) in
    let volume : Volume g.row.D.Denot g.row.D-Piece.Denot = slice_index_or c.as_mut_slice.result.now c.args.volume c.index-as_mut_slice-volume.result in
    let at : At store.volumes c.args.volume volume = subst (λ (vs : List (Volume g.row.D.Denot g.row.D-Piece.Denot)). At vs c.args.volume volume) c.as_mut_slice.ensures.value
    (at_read c.as_mut_slice.result.now c.args.volume c.index-as_mut_slice-volume.result (let long = ap length c.as_mut_slice.ensures.value in omega (arith, within, long))) in
    let items =
    with_items_is c.self.inside.volumes (slice_set c.as_mut_slice.result.now c.args.volume c.maintain.new.volume)
    (length-set c.as_mut_slice.result.now c.args.volume c.maintain.new.volume ∙ c.as_mut_slice.ensures.len)
    ∙ ap (λ (vs : List (Volume g.row.D.Denot g.row.D-Piece.Denot)). slice_set vs c.args.volume c.maintain.new.volume) c.as_mut_slice.ensures.value in
    let after = c.maintain.new.volume in
    let next : Open g.row.D.Denot g.row.D-Piece.Denot g.row.A.Denot = with_one store c.args.volume after in
    let called : Called g.D.Disk.fault_count g.D.Disk.fuse_count store c.args.volume volume after = record { at = at; same = c.maintain.ensures.same; counts = c.maintain.ensures.counts } in
    let shaped = called_shape g.D.Disk.fault_count g.D.Disk.fuse_count store c.args.volume volume after c.self.invariant called in
    let now : At (store_seen next).volumes c.args.volume (volume_seen after) =
    map-at volume_seen (slice_set store.volumes c.args.volume after) c.args.volume after (slice_get-set store.volumes c.args.volume volume after at) in
    let settings = (c.args.self.now).settings in
    subst (λ (vs : List (Volume g.row.D.Denot g.row.D-Piece.Denot)). let st : Open g.row.D.Denot g.row.D-Piece.Denot g.row.A.Denot = record store { volumes = vs } in
    VolumeAt c.args.volume (λ (seen : VolumeSeen). seen.frozen ≡ None) (store_seen st) → HasSwapped c.args.work c.maintain.result
    ⊎ (contents_in g.D.Disk.files st (slot_of settings c.args.volume c.args.replica) 0 ≡ contents_in g.D.Disk.files c.args.self.now (slot_of settings c.args.volume c.args.replica) 0)) (sym items)
    (λ thawed.
    let none : after.frozen ≡ None = ap (λ (w : VolumeSeen). w.frozen) (same_Some (volume_seen after) thawed.0 (sym now ∙ thawed.1)) ∙ thawed.2 in
    head_on g.D.Disk.files c.args.self.now store c.self.view_is c.self.invariant c.args.volume volume at (HasSwapped c.args.work c.maintain.result) after c.args.replica
    c.requires.replica shaped (c.maintain.ensures.counts).count
    (c.maintain.ensures.head_file tells none))
