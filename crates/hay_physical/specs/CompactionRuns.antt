-- A compaction that stands beside an open replica.
use Rattle.std.specs.Prelude.{◌≡◌, ◌⊎◌, ◌≢◌, ◌≤◌, ◌+◌, ◌-◌, ℕ, Bool, true, false, List, [], ◌∷◌, length, map, drop, Option, Some, None}
use Rattle.hay_needle.specs.declared.needle.Cell.{Cell}
use Rattle.hay_needle.specs.declared.needle.CellHead.{CellHead}
use Rattle.hay_needle.specs.declared.needle.Pair.{Pair}
use Rattle.hay_needle.specs.declared.settings.Super.{Super}
use Rattle.hay_needle.specs.Tables.{live_needles, table_of}
use Rattle.hay_disk.specs.Counts.{Rose}
use Rattle.hay_disk.specs.Disk.{Files, FileState, IsImage, IsSolid, IsSolidIn}
use Rattle.hay_disk.specs.Gate.{IsGate}
use Rattle.hay_head.specs.Head.{IsHead, head_magic, row_place}
use Rattle.hay_volume.specs.Cells.{needles_of}
use Rattle.hay_open.specs.Stored.{Stored, last_cell}
use Rattle.hay_compact.specs.Copying.{AreOfVersionTwo, Copies, Copying, HasPeeked, IsHeadOf, Repeats, Stage, live_among, renewed_needle}
use Rattle.hay_physical.specs.declared.fault.ReplicaFault.{ReplicaFault}
use Rattle.hay_physical.specs.declared.fault.ReplicaFault.TheVariants as fault
use Rattle.hay_physical.specs.declared.state.Copier.{Copier}
use Rattle.hay_physical.specs.declared.state.Copier.TheVariants.{Ended, Standing}
use Rattle.hay_physical.specs.declared.state.OpenFiles.{OpenFiles}
use Rattle.hay_physical.specs.declared.state.Phase.{Phase}
use Rattle.hay_physical.specs.declared.state.Phase.TheVariants.{Closed, Open}
use Rattle.hay_physical.specs.OpenCopies.{Copy, EndedAt, copier_goal, goal_of}

-- A compaction: the generation that it makes, how many cells are not examined yet, and whether nothing but it has changed the
-- replica, so that it has copied the live photos alone.
pub record Run : Type 0 where
  pub goal : ℕ
  pub left : ℕ
  pub tight : Bool

-- one cell more is examined
abbrev pub stepped : Run → Run
stepped run = record run { left = run.left - 1 }

-- a photo was put, which is a further cell to examine
abbrev pub longer : Run → Run
longer run = record { goal = run.goal; left = run.left + 1; tight = false }

-- a photo was deleted
abbrev pub loosened : Run → Run
loosened run = record run { tight = false }

-- The copier has examined so many of the cells, and copied those of them that were live then. What it copied and what is left
-- make the table of the cells.
pub record FilesRun (sup : Super) (files : Files) (opened : OpenFiles) (s : Stored) (run : Run) : Type 0 where
  pub stage : Stage
  pub stands : opened.copier ≡ Standing stage
  pub goal : stage.generation ≡ run.goal
  pub next : run.goal ≡ s.generation + 1
  pub fresh : List Cell
  pub examined : ℕ
  pub copying : Copying sup files opened.volume stage s.cells fresh examined
  pub copies : Copies fresh s.cells examined
  pub fewer : length fresh ≤ examined
  pub left : examined + run.left ≡ length s.cells
  pub tight : run.tight ≡ true → needles_of fresh ≡ map renewed_needle (live_among examined (needles_of s.cells))

-- This is the head of the next cell.
pub record FilesPeek (sup : Super) (files : Files) (opened : OpenFiles) (s : Stored) (run : Run) (head : CellHead) : Type 0 where
  pub has : FilesRun sup files opened s run
  pub cell : Cell
  pub is : drop has.examined s.cells ≡ cell ∷ drop (has.examined + 1) s.cells
  pub copy : IsHeadOf has.stage.next head cell

pub record RunStands {D : Type 0} (files : D → Files) (r : Copy D) (s : Stored) (run : Run) : Type 0 where
  pub opened : OpenFiles
  pub phase : r.phase ≡ Open opened
  pub has : FilesRun r.sup (files r.disk) opened s run

pub record PeekStands {D : Type 0} (files : D → Files) (r : Copy D) (s : Stored) (run : Run) (head : CellHead) : Type 0 where
  pub opened : OpenFiles
  pub phase : r.phase ≡ Open opened
  pub has : FilesPeek r.sup (files r.disk) opened s run head

-- This compaction stands at the replica that stands for s, or none.
unfoldable pub HasRun : {D : Type 0} → (D → Files) → Copy D → Stored → Option Run → Type 0
HasRun files r s None = goal_of r ≡ None
HasRun files r s (Some run) = RunStands files r s run

-- It stands, and the cell of this head is the next one.
unfoldable pub HasNext : {D : Type 0} → (D → Files) → Copy D → Stored → Run → CellHead → Type 0
HasNext files r s run head = PeekStands files r s run head

-- ON ANY DISK

-- this head was read, of a needle that ends at `end` or before, unless no compaction stands
abbrev pub CopierPeeked : ℕ → Copier → CellHead → Type 0
CopierPeeked end (Ended faults) head = Unit {0}
CopierPeeked end (Standing stage) head = HasPeeked end stage.next head

abbrev pub PhasePeeked : Phase → CellHead → Type 0
PhasePeeked Closed head = ⊥
PhasePeeked (Open opened) head = CopierPeeked opened.volume.end opened.copier head

abbrev pub IsPeeked : {D : Type 0} → Copy D → CellHead → Type 0
IsPeeked r head = PhasePeeked r.phase head

-- A failure or damage ended the compaction, and any other refusal left it.
abbrev pub EndsRun : {D : Type 0} → ℕ → Copy D → Copy D → ReplicaFault → Type 0
EndsRun faults old new (fault.Failed printed) = EndedAt faults new
EndsRun faults old new fault.Frozen = goal_of new ≡ goal_of old
EndsRun faults old new (fault.Full end need capacity) = goal_of new ≡ goal_of old
EndsRun faults old new (fault.Busy generation) = goal_of new ≡ goal_of old
EndsRun faults old new (fault.Ended printed) = goal_of new ≡ goal_of old
EndsRun faults old new fault.Worn = goal_of new ≡ goal_of old
EndsRun faults old new (fault.Damaged at) = EndedAt faults new
EndsRun faults old new fault.NoMemory = goal_of new ≡ goal_of old

-- the pair has a cell
abbrev pub HasPair : List Cell → Pair → Type 0
HasPair cells pair = (cell : Cell) × (last_cell cells pair ≡ Some cell)

-- the last cell of the pair stands at this place, and is not deleted
pub record HasLastAt (cells : List Cell) (pair : Pair) (at : ℕ) : Type 0 where
  pub cell : Cell
  pub last : last_cell cells pair ≡ Some cell
  pub place : cell.at ≡ at
  pub alive : cell.deleted ≡ false

-- A change leaves the head, and also the copier unless it froze the files.
pub record KeepsCopier (old new : OpenFiles) : Type 0 where
  pub head : new.head ≡ old.head
  pub thawed : new.frozen ≡ false → old.frozen ≡ false
  pub same : new.frozen ≡ false → new.copier ≡ old.copier
  pub stays : old.frozen ≡ true → new.copier ≡ old.copier
  pub dropped : old.frozen ≡ false → new.frozen ≡ true → (faults : ℕ) × (new.copier ≡ Ended faults)

-- Nothing but the copier changed.
abbrev pub KeepsFiles : OpenFiles → OpenFiles → Type 0
KeepsFiles old new = new ≡ record old { copier = new.copier }

-- a failure or damage ended the compaction, and all else left it
abbrev pub EndsBy : ℕ → Copier → Copier → ReplicaFault → Type 0
EndsBy faults old new (fault.Failed printed) = new ≡ Ended faults
EndsBy faults old new fault.Frozen = copier_goal new ≡ copier_goal old
EndsBy faults old new (fault.Full end need capacity) = copier_goal new ≡ copier_goal old
EndsBy faults old new (fault.Busy generation) = copier_goal new ≡ copier_goal old
EndsBy faults old new (fault.Ended printed) = copier_goal new ≡ copier_goal old
EndsBy faults old new fault.Worn = copier_goal new ≡ copier_goal old
EndsBy faults old new (fault.Damaged at) = new ≡ Ended faults
EndsBy faults old new fault.NoMemory = copier_goal new ≡ copier_goal old

-- The delete was repeated in the new file, or ended the compaction.
abbrev pub RepeatsIn : Files → Files → OpenFiles → Pair → Stage → Copier → Type 0
RepeatsIn old new opened pair stage (Standing next) =
    (sup : Super) (current fresh : List Cell) (examined : ℕ) →
    Copying sup old opened.volume stage current fresh examined → Repeats sup new opened.volume next current fresh examined pair
RepeatsIn old new opened pair stage (Ended faults) = Unit {0}

-- where a delete ended it, the disk's count of faults rose, to what is kept
abbrev pub EndsInDelete : ℕ → ℕ → Copier → Copier → Type 0
EndsInDelete before after old new =
    (copier_goal new ≡ copier_goal old) ⊎ ((new ≡ Ended after) × Rose before after)

-- THE END

-- The head names the next generation, and all of it is on the disk.
pub record Switches (old new : FileState) (generation : ℕ) : Type 0 where
  pub is : (superblock : List ℕ) → IsHead superblock old.now generation → IsHead superblock new.now (generation + 1)
  pub solid : IsSolid new
  pub gate : IsGate head_magic (row_place (generation + 1 + 1)) new

-- Whatever a stop leaves of the head names this generation or the next one.
abbrev pub MaySwitch : FileState → FileState → ℕ → Type 0
MaySwitch old new generation =
    (superblock image : List ℕ) → IsHead superblock old.now generation → IsSolidIn 0 (row_place (generation + 1)) old → IsImage new image
    → IsHead superblock image generation ⊎ IsHead superblock image (generation + 1)

-- All but the head and these two files are as they were.
abbrev pub KeepsBut : ℕ → ℕ → Files → Files → Type 0
KeepsBut first second old new = (n : ℕ) → n ≢ 0 → n ≢ first → n ≢ second → new n ≡ old n

-- A file was taken away, or the disk's count of faults rose.
abbrev pub IsRemoved : FileState → ℕ → ℕ → Type 0
IsRemoved file before after = (file.now ≡ []) ⊎ Rose before after

-- Two files were taken away, and each that stays made the count rise by itself.
pub record RemovedBoth (files : Files) (first second before after : ℕ) : Type 0 where
  pub between : ℕ
  pub first_gone : IsRemoved (files first) before between
  pub second_gone : IsRemoved (files second) between after

-- The cells that a swap leaves have the table, each is of version 2, and they are no more and no longer than they were.
pub record Swaps (s t : Stored) : Type 0 where
  pub table : table_of (needles_of t.cells) ≡ table_of (needles_of s.cells)
  pub anew : AreOfVersionTwo t.cells
  pub generation : t.generation ≡ s.generation + 1
  pub records : t.records ≡ length t.cells
  pub fewer : length t.cells ≤ length s.cells
  pub shorter : t.end ≤ s.end

-- Where nothing else changed the replica, they are the live ones, in version 2.
abbrev pub IsTight : Run → Stored → Stored → Type 0
IsTight run s t = run.tight ≡ true → needles_of t.cells ≡ map renewed_needle (live_needles (needles_of s.cells))
