-- What opening a disk does to it.
use Rattle.std.specs.Prelude.{◌≡◌, ◌<◌, ◌≤◌, ℕ, List, [], length}
use Rattle.hay_needle.specs.declared.settings.FileKind.TheVariants.{Journal}
use Rattle.hay_needle.specs.declared.settings.Settings.{Settings}
use Rattle.hay_needle.specs.declared.settings.Super.{Super}
use Rattle.hay_disk.specs.Disk.{Files, IsImage, IsSolid, MayLeave}
use Rattle.hay_dirfile.specs.Journal.{IsJournal}
use Rattle.hay_dirfile.specs.declared.row.DirRow.{DirRow}
use Rattle.hay_open.specs.Stored.{IsVoid, OpensAs, Stored, fresh_stored}
use Rattle.hay_batch.specs.declared.directory.LoadDirectory.{LoadDirectory}
use Rattle.hay_batch.specs.declared.opening.OpenJournal.{OpenJournal}

-- what stands at the front of a journal
abbrev pub journal_super : Settings → Super
journal_super settings = record { settings = settings; kind = Journal; volume = 0; replica = 0; generation = 0 }

-- a disk with what is kept of its journal
abbrev pub directory_of : {D : Type 0} → D → OpenJournal → LoadDirectory D
directory_of disk kept = record { disk = disk; journal = kept.journal; homes = kept.homes; rows = kept.rows }

-- The disk of a replica keeps its bytes, all of it on the disk, but where it was void: whatever a stop leaves of such a one,
-- an opening finds nothing.
pub record OpensReplica {D : Type 0} (Tells : Type 0) (files : D → Files) (fault_count fuse_count : D → ℕ) (old new : D) : Type 0 where
  pub kept : Tells → (IsVoid (λ n. (files old n).now) → ⊥) → (n : ℕ) → (files new n).now ≡ (files old n).now
  pub stays : Tells → (IsVoid (λ n. (files old n).now) → ⊥) → (n : ℕ) → IsSolid (files new n)
  pub nothing : Tells → IsVoid (λ n. (files old n).now) → (image : ℕ → List ℕ) → MayLeave (files new) image → (other : Super) (s : Stored) → OpensAs other image s → s ≡ fresh_stored
  pub later : fault_count old ≤ fault_count new
  pub fuses : fuse_count new ≡ fuse_count old

-- The disk of the Directory stays as it is, but where its journal has size 0: whatever a stop leaves of such a one has no rows.
pub record OpensDirectory {D : Type 0} (Tells : Type 0) (files : D → Files) (fault_count fuse_count : D → ℕ) (old new : D) : Type 0 where
  pub same : Tells → 0 < length (files old 0).now → files new ≡ files old
  pub nothing : Tells → (files old 0).now ≡ [] → (superblock image : List ℕ) (volumes : ℕ) (rows : List DirRow) → IsImage (files new 0) image → IsJournal superblock volumes image rows → rows ≡ []
  pub later : fault_count old ≤ fault_count new
  pub fuses : fuse_count new ≡ fuse_count old
