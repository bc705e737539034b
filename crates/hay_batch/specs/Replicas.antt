-- What a replica has to which batches are added, and what adding one does to it.
use Rattle.std.specs.Prelude.{◌≡◌, ◌⊎◌, ◌<◌, ◌≤◌, ◌+◌, ℕ, List, ◌++◌, Some, slice_get}
use Rattle.hay_needle.specs.declared.needle.Cell.{Cell}
use Rattle.hay_needle.specs.Needle.{needle_magic}
use Rattle.hay_disk.specs.Disk.{Files, FileState, IsImage, IsSolid, KeepsOthers}
use Rattle.hay_disk.specs.Gate.{IsGate}
use Rattle.hay_volume.specs.Cells.{IsVolume}
use Rattle.hay_batch.specs.declared.photo.NewPhoto.{NewPhoto}
use Rattle.hay_batch.specs.declared.replica.LoadReplica.{LoadReplica}
use Rattle.hay_batch.specs.Batches.{batch_total, new_cells}

-- the volume file, as the disk has it
abbrev pub file_of : {D : Type 0} → (D → Files) → LoadReplica D → FileState
file_of files r = files r.disk r.volume.file

-- a batch may be added
abbrev pub IsReady : {D : Type 0} → (D → Files) → LoadReplica D → Type 0
IsReady files r = IsGate needle_magic r.volume.end (file_of files r)

-- needles of so many bytes and the end mark fit
abbrev pub HasRoom : {D : Type 0} → ℕ → LoadReplica D → Type 0
HasRoom need r = r.volume.end + need + 8 ≤ r.volume.capacity

-- the item at this number
abbrev pub At : {X : Type 0} → List X → ℕ → X → Type 0
At xs i x = slice_get xs i ≡ Some x

-- The replica of this number is the lowest that lacks room for needles of so many bytes.
pub record IsFirstFull {D : Type 0} (need : ℕ) (replicas : List (LoadReplica D)) (j : ℕ) (r : LoadReplica D) : Type 0 where
  pub there : At replicas j r
  pub lacks : r.volume.capacity < r.volume.end + need + 8
  pub below : (i : ℕ) (other : LoadReplica D) → i < j → At replicas i other → HasRoom need other

-- The volume file has this superblock and these cells, all of it is on the disk, and a batch may be added.
pub record Holds {D : Type 0} (files : D → Files) (superblock : List ℕ) (cells : List Cell) (r : LoadReplica D) : Type 0 where
  pub is : IsVolume superblock (file_of files r).now cells r.volume.end
  pub solid : IsSolid (file_of files r)
  pub ready : IsReady files r

-- The cells of the batch were added behind those that the replica had, and the next batch may be added.
pub record Adds {D : Type 0} (Tells : Type 0) (files : D → Files) (photos : List NewPhoto) (old new : LoadReplica D) : Type 0 where
  pub volume : new.volume ≡ record old.volume { end = old.volume.end + batch_total photos }
  pub ready : Tells → IsReady files new
  pub holds : Tells → (superblock : List ℕ) (cells : List Cell) → Holds files superblock cells old → Holds files superblock (cells ++ new_cells old.volume.end photos) new

-- a volume file of these cells, with those of the batch or without
abbrev pub HasWithOrWithout : List ℕ → List Cell → ℕ → List NewPhoto → List ℕ → Type 0
HasWithOrWithout superblock cells end photos file = IsVolume superblock file cells end ⊎ IsVolume superblock file (cells ++ new_cells end photos) (end + batch_total photos)

-- Whatever a stop leaves has the cells from before, with those of the batch or without, and no other file was changed.
pub record MayAdd {D : Type 0} (files : D → Files) (photos : List NewPhoto) (old new : LoadReplica D) : Type 0 where
  pub file : new.volume.file ≡ old.volume.file
  pub room : new.volume.capacity ≡ old.volume.capacity
  pub left : (superblock : List ℕ) (cells : List Cell) (image : List ℕ) → Holds files superblock cells old → IsImage (file_of files new) image
      → HasWithOrWithout superblock cells old.volume.end photos image
  pub others : KeepsOthers old.volume.file (files old.disk) (files new.disk)
