-- The disks of a store that stands for what is known have been formatted.
use Rattle.std.proofs.Common.{◌≡◌, inl, inr, ℕ, zero, suc, ◌<◌, Bool, true, false, List, [], ◌∷◌, ◌++◌, length, map, Option, Some, None, sym, ap, subst, ◌∙◌, refl, arith}
use Rattle.std.specs.Prelude.{replicate, slice_get}
use Rattle.std.specs.List.{AllByRecursion, AllZip, flat_map}
use Rattle.std.specs.Option.{option_map_or}
use Rattle.hay_disk.specs.Disk.{Files, IsImage}
use Rattle.hay_core.specs.declared.entry.Entry.{Entry}
use Rattle.hay_open.specs.Stored.{Stored}
use Rattle.hay_physical.specs.OpenCopies.{Copy}
use Rattle.hay_physical.specs.Replicas as physical
use Rattle.hay_physical.proofs.Openings.{finds_not_void}
use Rattle.hay_legal.specs.declared.known.DirKnown.{DirKnown}
use Rattle.hay_legal.specs.declared.known.Known.{Known}
use Rattle.hay_legal.specs.declared.known.Pending.{Pending}
use Rattle.hay_legal.specs.declared.known.VolumeKnown.{VolumeKnown}
use Rattle.hay_legal.specs.Known.{disk_count, replica_at}
use Rattle.hay_legal.specs.Restarts.{directory_with}
use Rattle.hay_reply.specs.declared.Note.{Note}
use Rattle.hay_directory.specs.State as directory
use Rattle.hay_directory.proofs.RowLaws.{journal_left, not_void}
use Rattle.hay_logical.specs.Fits.{At, HoldsPart, HoldsSwap, Part, part_of}
use Rattle.hay_logical.specs.Fits.Part.{Kept, Unsure, Lost}
use Rattle.hay_logical.specs.Stands as logical
use Rattle.hay_logical.specs.Stands.{HoldsPending}
use Rattle.hay_logical.specs.Volumes.{Volume}
use Rattle.hay_cluster.specs.Opening.{Gathers, IsLeft, LeavesDirectory, LeavesVolume, OpensDirectory, OpensParts, OpensVolume, StopsDirectory, StopsVolume}
use Rattle.hay_cluster.specs.Outside.{IsVoid}
use Rattle.hay_cluster.specs.State.{Stands}
use Rattle.hay_cluster.specs.Store.{IsShaped, Open, contents_in, disk_of, disks_of, volume_disks}
use Rattle.hay_cluster.proofs.ClosingStore.{disks_many, order_item}
use Rattle.hay_cluster.proofs.OpeningLower.{volume_stands}
use Rattle.hay_cluster.proofs.OpeningStore.{MovedParts, StoppedParts}

all_append : {X : Type 0} (Q : X → Type 0) (xs ys : List X) → AllByRecursion Q xs → AllByRecursion Q ys → AllByRecursion Q (xs ++ ys)
all_append Q [] ys all all' = all'
all_append Q (x ∷ xs) ys all all' = (all.0, all_append Q xs ys all.1 all')

all_get : {X : Type 0} (Q : X → Type 0) (xs : List X) (i : ℕ) (x : X) → AllByRecursion Q xs → slice_get xs i ≡ Some x → Q x
all_get Q [] i x all at = absurd cc
all_get Q (y ∷ xs) zero x all at = let same : y ≡ x = cc in subst Q same all.0
all_get Q (y ∷ xs) (suc i) x all at = all_get Q xs i x all.1 at

module _ {D : Type 0} (files : D → Files) (now : (disk : D) (n : ℕ) → IsImage (files disk n) (files disk n).now) where
  abbrev IsFormatted : D → Type 0
  IsFormatted disk = (files disk 0).now ≡ [] → ⊥

  copy_formatted : (r : Copy D) (stuck : Bool) (s t : Stored) → physical.Holds files r stuck s t → IsFormatted r.disk
  copy_formatted r stuck s t holds = finds_not_void r.sup (files r.disk) stuck s t (now r.disk) holds

  swap_formatted : (r : Copy D) (stuck : Bool) (s : Stored) (poised : Bool) → HoldsSwap files r stuck s poised → IsFormatted r.disk
  swap_formatted r stuck s false holds = copy_formatted r stuck s s holds
  swap_formatted r stuck s true holds = copy_formatted r stuck s holds.0 holds.2

  part_formatted : (r : Copy D) (stuck : Bool) (entry : Entry) (s : Stored) (part : Part) → HoldsPart files r stuck entry s part → IsFormatted r.disk
  part_formatted r stuck entry s Kept holds = copy_formatted r stuck holds.0 holds.0 holds.2
  part_formatted r stuck entry s Unsure holds = copy_formatted r stuck s holds.0 holds.2
  part_formatted r stuck entry s Lost holds = copy_formatted r stuck s s holds

  pending_formatted : (r : Copy D) (stuck poised : Bool) (s : Stored) (pending : Option Pending) (broken_at j : ℕ) → HoldsPending files r stuck poised s pending broken_at j → IsFormatted r.disk
  pending_formatted r stuck poised s None broken_at j holds = swap_formatted r stuck s poised holds
  pending_formatted r stuck poised s (Some pending) broken_at j holds = part_formatted r stuck pending.entry s (part_of broken_at j) holds.1

  copies_formatted : (replicas : List (Copy D)) → ((j : ℕ) (r : Copy D) → At replicas j r → IsFormatted r.disk) → AllByRecursion IsFormatted (map disk_of replicas)
  copies_formatted [] each = tt
  copies_formatted (r ∷ replicas) each = (each 0 r refl, copies_formatted replicas (λ j q at. each (suc j) q at))

  held_formatted : {P : Type 0} (volume : Volume D P) (k : VolumeKnown) → logical.Holds files volume k → AllByRecursion IsFormatted (volume_disks volume)
  unfolding logical.Holds
  held_formatted volume k holds =
      copies_formatted volume.replicas (λ j r at. let one = holds.each j r at in
      pending_formatted r (replica_at k j).stuck (replica_at k j).poised one.stored k.pending holds.broken_at j one.holds)

  volume_formatted : {P : Type 0} (Tells : Type 0) (volume : Volume D P) (k : VolumeKnown) → logical.Stands files Tells volume k → AllByRecursion IsFormatted (volume_disks volume)
  volume_formatted Tells volume k stands = held_formatted volume k (volume_stands files Tells volume k stands)

  volumes_formatted : {P : Type 0} (Tells : Type 0) (xs : List (Volume D P)) (ks : List VolumeKnown) → AllZip (logical.Stands files Tells) xs ks → AllByRecursion IsFormatted (flat_map volume_disks xs)
  volumes_formatted Tells [] [] all = tt
  volumes_formatted Tells [] (k ∷ ks) all = absurd all
  volumes_formatted Tells (x ∷ xs) [] all = absurd all
  volumes_formatted Tells (x ∷ xs) (k ∷ ks) all =
      all_append IsFormatted (volume_disks x) (flat_map volume_disks xs) (volume_formatted Tells x k all.0) (volumes_formatted Tells xs ks all.1)

  directory_formatted : (state : directory.State D) (known : DirKnown) (drained : List Bool) → directory.Stands files state known drained → IsFormatted state.disk
  unfolding directory.Stands
  directory_formatted state known drained stands void =
      let left = journal_left state.settings (files state.disk 0) state.journal.end known.rows known.pending (files state.disk 0).now stands.holds (now state.disk 0) in
      let some = not_void state.settings (files state.disk 0).now _ left.1 in
      omega (arith, some, ap length void)

  slot_formatted : {P A : Type 0} (store : Open D P A) → AllByRecursion IsFormatted (disks_of store) → (slot : ℕ) → slot < length (disks_of store) → IsVoid (contents_in files store slot) → ⊥
  slot_formatted store all slot below void =
      let there = order_item (disks_of store) slot below in
      all_get IsFormatted (disks_of store) slot there.0 all there.1
      (ap (λ (o : Option D). option_map_or (λ disk. (files disk 0).now) o []) (sym there.1) ∙ void)

  pub stands_formatted : {P A : Type 0} (Tells : Type 0) (faults fuses : D → ℕ) (arm_faults : A → ℕ) (store : Open D P A) (k : Known) → Stands files Tells faults fuses arm_faults store k
      → (slot : ℕ) → slot < disk_count store.settings → IsVoid (contents_in files store slot) → ⊥
  unfolding Stands
  stands_formatted {P} {A} Tells faults fuses arm_faults store k stands slot below void =
      let all : AllByRecursion IsFormatted (disks_of store) =
      (directory_formatted store.directory k.directory k.drained stands.directory, volumes_formatted Tells store.volumes k.volumes stands.volumes) in
      let many = disks_many store stands.shape in
      slot_formatted store all slot (omega (arith, below, many)) void

  -- So have those of a store that was opened.
  opened_directory : (DiskTells : Type 0) → DiskTells → (old new : directory.State D) (notes : List Note) → directory.IsFresh old → OpensDirectory DiskTells files old new notes → IsFormatted new.disk
  opened_directory DiskTells tells old new notes fresh opens =
      let found = (opens.first tells fresh).1 in
      directory_formatted new (directory_with found.0) (replicate (old.settings).machines false) found.2

  module _ {P : Type 0} (DiskTells : Type 0) (Tells : Type 0) (faults fuses : D → ℕ) (tells : DiskTells) where
    opened_volumes : (xs ys : List (Volume D P)) (notes : List Note) → Gathers (OpensVolume DiskTells files Tells faults fuses) xs ys notes → AllByRecursion IsFormatted (flat_map volume_disks ys)
    opened_volumes [] [] notes opens = tt
    opened_volumes [] (y ∷ ys) notes opens = absurd opens
    opened_volumes (x ∷ xs) [] notes opens = absurd opens
    opened_volumes (x ∷ xs) (y ∷ ys) notes opens =
        all_append IsFormatted (volume_disks y) (flat_map volume_disks ys) (copies_formatted y.replicas (λ j r at. opens.first.formatted tells j r at)) (opened_volumes xs ys opens.behind opens.rest)

    pub opened_formatted : {A : Type 0} (old new : Open D P A) (notes : List Note) → directory.IsFresh old.directory → IsShaped new
        → OpensParts DiskTells files Tells faults fuses old.directory new.directory old.volumes new.volumes notes
        → (slot : ℕ) → slot < disk_count new.settings → IsVoid (contents_in files new slot) → ⊥
    opened_formatted old new notes fresh shape opens slot below void =
        let all : AllByRecursion IsFormatted (disks_of new) =
        (opened_directory DiskTells tells old.directory new.directory opens.of_directory fresh opens.directory, opened_volumes old.volumes new.volumes opens.of_volumes opens.volumes) in
        let many = disks_many new shape in
        slot_formatted new all slot (omega (arith, below, many)) void

  -- So have those of a store whose restart was refused.
  left_formatted : {P : Type 0} (Tells : Type 0) (volume : Volume D P) (k : VolumeKnown) → IsLeft files Tells k volume → AllByRecursion IsFormatted (volume_disks volume)
  left_formatted Tells volume k (inl holds) = held_formatted volume k holds
  left_formatted Tells volume k (inr (notes, again)) = volume_formatted Tells volume again.opened again.stands

  refused_volumes : {P : Type 0} (DiskTells Tells : Type 0) (faults fuses : D → ℕ) → DiskTells → (xs ys zs : List (Volume D P)) (ks : List VolumeKnown) → AllZip (logical.Stands files Tells) xs ks
      → AllZip (StopsVolume DiskTells files Tells faults fuses) xs ys → AllZip (LeavesVolume DiskTells files Tells faults fuses) ys zs → AllByRecursion IsFormatted (flat_map volume_disks zs)
  refused_volumes DiskTells Tells faults fuses tells [] [] [] ks stands stops moves = tt
  refused_volumes DiskTells Tells faults fuses tells [] [] (z ∷ zs) ks stands stops moves = absurd moves
  refused_volumes DiskTells Tells faults fuses tells [] (y ∷ ys) zs ks stands stops moves = absurd stops
  refused_volumes DiskTells Tells faults fuses tells (x ∷ xs) [] zs ks stands stops moves = absurd stops
  refused_volumes DiskTells Tells faults fuses tells (x ∷ xs) (y ∷ ys) [] ks stands stops moves = absurd moves
  refused_volumes DiskTells Tells faults fuses tells (x ∷ xs) (y ∷ ys) (z ∷ zs) [] stands stops moves = absurd stands
  refused_volumes DiskTells Tells faults fuses tells (x ∷ xs) (y ∷ ys) (z ∷ zs) (k ∷ ks) stands stops moves =
      all_append IsFormatted (volume_disks z) (flat_map volume_disks zs) (left_formatted Tells z k (moves.0.left tells k (stops.0.stopped tells k stands.0)))
      (refused_volumes DiskTells Tells faults fuses tells xs ys zs ks stands.1 stops.1 moves.1)

  stopped_formatted : (state : directory.State D) (known : DirKnown) → directory.Stopped files state known → IsFormatted state.disk
  unfolding directory.Stopped
  stopped_formatted state known stopped void =
      let some = not_void state.settings (files state.disk 0).now _ stopped.journal in
      omega (arith, some, ap length void)

  refused_directory : (DiskTells : Type 0) (faults fuses : D → ℕ) → DiskTells → (old mid new : directory.State D) (known : DirKnown) (drained : List Bool) → directory.Stands files old known drained
      → StopsDirectory DiskTells files faults fuses old mid → LeavesDirectory DiskTells files faults fuses mid new → IsFormatted new.disk
  refused_directory DiskTells faults fuses tells old mid new known drained stands stops moves =
      elim (moves.left tells known (stops.stopped tells known drained stands)) [
        | inl stopped ↦ stopped_formatted new known stopped
        | inr (kept, again) ↦ directory_formatted new _ _ again
      ]

  pub refused_formatted : {P A : Type 0} (DiskTells Tells : Type 0) (faults fuses : D → ℕ) (arm_faults : A → ℕ) → DiskTells → (old mid new : Open D P A) (k : Known)
      → Stands files Tells faults fuses arm_faults old k
      → StoppedParts DiskTells files Tells faults fuses arm_faults old mid → MovedParts DiskTells files Tells faults fuses arm_faults mid new → IsShaped new
      → (slot : ℕ) → slot < disk_count new.settings → IsVoid (contents_in files new slot) → ⊥
  unfolding Stands
  refused_formatted DiskTells Tells faults fuses arm_faults tells old mid new k stands s m shape slot below void =
      let all : AllByRecursion IsFormatted (disks_of new) = (
        refused_directory DiskTells faults fuses tells old.directory mid.directory new.directory k.directory k.drained stands.directory s.directory m.directory,
        refused_volumes DiskTells Tells faults fuses tells old.volumes mid.volumes new.volumes k.volumes stands.volumes s.volumes m.volumes,
      ) in
      let many = disks_many new shape in
      slot_formatted new all slot (omega (arith, below, many)) void
