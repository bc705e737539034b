-- What a Directory has to which batches are added, and what adding one does to it.
use Rattle.std.specs.Prelude.{◌≡◌, ◌⊎◌, ◌<◌, ℕ, List, ◌++◌, length, map, Some, None}
use Rattle.hay_disk.specs.Disk.{Files, IsImage, IsSolid, KeepsOthers}
use Rattle.hay_disk.specs.Gate.{IsGate}
use Rattle.hay_dirfile.specs.Journal.{IsJournal, journal_end, journal_magic}
use Rattle.hay_dirfile.specs.declared.row.DirRow.{DirRow}
use Rattle.hay_batch.specs.declared.directory.LoadDirectory.{LoadDirectory}
use Rattle.hay_batch.specs.declared.photo.NewPhoto.{NewPhoto}
use Rattle.hay_batch.specs.Batches.{new_row}
use Rattle.hay_batch.specs.Homes.{AreHomes, home_among}
use Rattle.hay_batch.specs.Replicas.{At}

-- rows may be added
abbrev pub IsReady : {D : Type 0} → (D → Files) → LoadDirectory D → Type 0
IsReady files d = IsGate journal_magic d.journal.end (files d.disk 0)

-- The journal has this superblock and these rows, all of it is on the disk, rows may be added, and what is kept in memory is right.
pub record HoldsRows {D : Type 0} (files : D → Files) (superblock : List ℕ) (volumes : ℕ) (rows : List DirRow) (d : LoadDirectory D) : Type 0 where
  pub is : IsJournal superblock volumes (files d.disk 0).now rows
  pub end : d.journal.end ≡ journal_end rows
  pub solid : IsSolid (files d.disk 0)
  pub ready : IsReady files d
  pub homes : AreHomes d.homes rows
  pub count : d.rows ≡ length rows

-- the volume is the home of the first of these photos that has one
pub record IsFirstHome (homes : List ((ℕ × ℕ) × ℕ)) (photos : List NewPhoto) (volume : ℕ) : Type 0 where
  pub at : ℕ
  pub photo : NewPhoto
  pub there : At photos at photo
  pub home : home_among homes photo.pair ≡ Some volume
  pub before : (i : ℕ) (other : NewPhoto) → i < at → At photos i other → home_among homes other.pair ≡ None

-- Whatever a stop leaves has the rows from before, with those of the batch or without, and no other file was changed.
pub record MaySettle {D : Type 0} (files : D → Files) (volume : ℕ) (photos : List NewPhoto) (old new : LoadDirectory D) : Type 0 where
  pub left : (superblock : List ℕ) (volumes : ℕ) (rows : List DirRow) (image : List ℕ) → volume < volumes → HoldsRows files superblock volumes rows old → IsImage (files new.disk 0) image
      → IsJournal superblock volumes image rows ⊎ IsJournal superblock volumes image (rows ++ map (new_row volume) photos)
  pub others : KeepsOthers 0 (files old.disk) (files new.disk)
