-- What a compaction has made so far of a current volume file.
use Rattle.std.specs.Prelude.{◌≡◌, ◌⊎◌, ◌≢◌, ◌≤◌, ◌<◌, ◌+◌, ◌^◌, ℕ, zero, suc, Bool, true, false, All, List, [], ◌∷◌, ◌++◌, length, map, take, drop, sum_by, Option, Some, None}
use Rattle.std.specs.Prelude.{option_map, if◌then◌else◌}
use Rattle.hay_needle.specs.declared.needle.Cell.{Cell}
use Rattle.hay_needle.specs.declared.needle.CellHead.{CellHead}
use Rattle.hay_needle.specs.declared.needle.Needle.{Needle}
use Rattle.hay_needle.specs.declared.needle.Pair.{Pair}
use Rattle.hay_needle.specs.declared.needle.Version.TheVariants.{Two}
use Rattle.hay_needle.specs.declared.settings.Super.{Super}
use Rattle.hay_needle.specs.Copies.{CopiesAt}
use Rattle.hay_needle.specs.Needle.{HeadBytes, head_of_cell, needle_of_cell}
use Rattle.hay_needle.specs.Sizes.{max_photo, needle_total}
use Rattle.hay_needle.specs.Super.{super_bytes}
use Rattle.hay_needle.specs.Tables.{flag_last, is_live, lacks}
use Rattle.hay_disk.specs.Disk.{Files, IsFree}
use Rattle.hay_volume.specs.declared.volume.VolumeFile.{VolumeFile}
use Rattle.hay_volume.specs.Cells.{IsCellAt, IsVolume, cell_head, needles_of}
use Rattle.hay_volume.specs.Needles.{HasNeedleOf}
use Rattle.hay_index.specs.Records.{IsIndex}
use Rattle.hay_open.specs.Stored.{Stored, cell_record, index_file, index_super, last_cell, volume_file, volume_super}
use Rattle.hay_index.specs.declared.index.IndexFile.{IndexFile}
use Rattle.hay_index.specs.declared.record.Record.{Record}
use Rattle.hay_compact.specs.Standing.{LastCells, last_in}
use Rattle.hay_compact.specs.declared.standing.LastCell.{LastCell}

-- CELLS

-- the bytes of a cell in a volume file
abbrev pub cell_total : Cell → ℕ
cell_total cell = needle_total (length cell.bytes)

-- where cells end that stand from 64 on without gaps
abbrev pub end_of : List Cell → ℕ
end_of cells = 64 + sum_by cell_total cells

-- the cell at another place, written anew in version 2
abbrev pub renewed : ℕ → Cell → Cell
renewed at cell = record cell { at = at; version = Two }

abbrev pub renewed_needle : Needle → Needle
renewed_needle needle = record needle { version = Two }

-- each of the cells is of version 2
abbrev pub AreOfVersionTwo : List Cell → Type 0
AreOfVersionTwo cells = All (λ (cell : Cell). cell.version ≡ Two) cells

-- the place of a pair's photo, if the last cell of the pair has one
abbrev pub photo_place : Option Cell → Option ℕ
photo_place None = None
photo_place (Some cell) = if cell.deleted then None else Some cell.at

-- what is kept of a cell
abbrev pub kept_cell : Cell → LastCell
kept_cell cell = record { at = cell.at; deleted = cell.deleted }

-- `latest` is the place of this cell, or none where it is deleted
abbrev pub IsPlaceOf : Option ℕ → Cell → Type 0
IsPlaceOf (Some at) cell = cell.at ≡ at
IsPlaceOf None cell = cell.deleted ≡ true

-- the pair has a cell, and `latest` is the place of the last one, or none where that is deleted
pub record IsLatest (cells : List Cell) (pair : Pair) (latest : Option ℕ) : Type 0 where
  pub cell : Cell
  pub last : last_cell cells pair ≡ Some cell
  pub place : IsPlaceOf latest cell

-- THE CELL THAT IS NEXT

-- the bytes are those of this cell, which stands at `at`
pub record IsCopy (at : ℕ) (bytes : List ℕ) (head : CellHead) (cell : Cell) : Type 0 where
  pub is : IsCellAt at bytes cell
  pub head_is : head ≡ cell_head cell

-- the head is that of this cell, which stands at `at`
pub record IsHeadOf (at : ℕ) (head : CellHead) (cell : Cell) : Type 0 where
  pub place : cell.at ≡ at
  pub head_is : head ≡ cell_head cell

-- A head was read. Its size is a photo's, its needle ends at `end` or before, and the places of that and of the end mark behind it
-- are numbers of 64 bits.
pub record HasPeeked (end at : ℕ) (head : CellHead) : Type 0 where
  pub small : head.size ≤ max_photo Two
  pub within : at + needle_total head.size ≤ end
  pub inside : at + needle_total head.size + 8 < 2 ^ 64

-- It stands at `at` in the file.
pub record HeadStands (at : ℕ) (head : CellHead) (file : List ℕ) : Type 0 where
  pub place : head.at ≡ at
  pub is : HeadBytes (take 36 (drop at file)) (head_of_cell head)

-- a cell that was examined is deleted, or is not the last of its pair, or its needle stands there
abbrev pub IsPassedOrStands : ℕ → CellHead → Option ℕ → List ℕ → Type 0
IsPassedOrStands at cell latest file = (cell.deleted ≡ true) ⊎ (latest ≢ Some at) ⊎ HasNeedleOf cell.size false at file

-- where a compaction met damage: at the next cell, which stands behind the superblock and before `end`
abbrev pub IsNextWithin : ℕ → ℕ → ℕ → Type 0
IsNextWithin end next at = (at ≡ next) × (64 ≤ at) × (at < end)

-- The bytes are some cell's with this head. Its place, and that of the end mark behind it, are numbers of 64 bits.
pub record HasRead (at : ℕ) (bytes : List ℕ) (head : CellHead) : Type 0 where
  pub cell : Cell
  pub is : IsCopy at bytes head cell
  pub inside : at + length bytes + 8 < 2 ^ 64

-- HOW FAR A COMPACTION IS

-- A compaction as it stands: the files of the new generation, with the capacity that its volume file is to have, each pair's last cell
-- in it, where the next cell of the current volume file stands, and the needle that was read last.
pub record Stage : Type 0 where
  pub generation : ℕ
  pub capacity : ℕ
  pub volume : VolumeFile
  pub index : IndexFile
  pub standing : LastCells
  pub next : ℕ
  pub bytes : List ℕ

-- the needle of a record lies behind the superblock and ends at `end` or before
abbrev pub RowWithin : ℕ → Record → Type 0
RowWithin end row = (64 ≤ row.at) × (row.at + needle_total row.size ≤ end)

-- What holds on any disk: the new volume file has its superblock and ends before the place of the next cell, each record that is noted
-- is of a needle in it, and nothing bounds it.
pub record IsSafe (generation : ℕ) (volume : VolumeFile) (index : IndexFile) (next : ℕ) : Type 0 where
  pub named : volume.file ≡ volume_file generation
  pub unbounded : volume.capacity ≡ 18446744073709551615
  pub from : 64 ≤ volume.end
  pub behind : volume.end ≤ next
  pub thawed : index.frozen ≡ false
  pub small : All (λ (row : Record). row.size ≤ max_photo Two) index.pending
  pub within : All (RowWithin volume.end) index.pending

-- The new volume file has the cells `fresh`, each of version 2, whose records are noted and not written, and of the cells `current`
-- of the current volume file so many are examined. No piece stands on the new files, and no pair has a cell there that has none in the
-- current one.
pub record Copying (sup : Super) (files : Files) (old : VolumeFile) (stage : Stage) (current fresh : List Cell) (examined : ℕ) : Type 0 where
  pub names_volume : stage.volume.file ≡ volume_file stage.generation
  pub names_index : stage.index.file ≡ index_file stage.generation
  pub volume_is : IsVolume (super_bytes (volume_super sup stage.generation)) (files stage.volume.file).now fresh stage.volume.end
  pub index_is : IsIndex (super_bytes (index_super sup stage.generation)) (files stage.index.file).now [] stage.index.end
  pub volume_free : IsFree (files stage.volume.file)
  pub index_free : IsFree (files stage.index.file)
  pub noted : stage.index.pending ≡ map cell_record fresh
  pub anew : AreOfVersionTwo fresh
  pub places : (pair : Pair) → last_in stage.standing pair ≡ option_map kept_cell (last_cell fresh pair)
  pub capacity_is : stage.capacity ≡ sup.settings.capacity
  pub volume_apart : old.file ≢ stage.volume.file
  pub index_apart : old.file ≢ stage.index.file
  pub superblock : List ℕ
  pub current_is : IsVolume superblock (files old.file).now current old.end
  pub within : examined ≤ length current
  pub next_is : stage.next ≡ end_of (take examined current)
  pub known : (pair : Pair) → lacks pair (needles_of current) ≡ true → lacks pair (needles_of fresh) ≡ true

-- What was made of the new files, whatever the current ones hold.
pub record Making (sup : Super) (files : Files) (stage : Stage) (fresh : List Cell) : Type 0 where
  pub names_volume : stage.volume.file ≡ volume_file stage.generation
  pub names_index : stage.index.file ≡ index_file stage.generation
  pub volume_is : IsVolume (super_bytes (volume_super sup stage.generation)) (files stage.volume.file).now fresh stage.volume.end
  pub index_is : IsIndex (super_bytes (index_super sup stage.generation)) (files stage.index.file).now [] stage.index.end
  pub volume_free : IsFree (files stage.volume.file)
  pub index_free : IsFree (files stage.index.file)
  pub noted : stage.index.pending ≡ map cell_record fresh
  pub anew : AreOfVersionTwo fresh
  pub places : (pair : Pair) → last_in stage.standing pair ≡ option_map kept_cell (last_cell fresh pair)
  pub capacity_is : stage.capacity ≡ sup.settings.capacity

-- something was made of them
pub record IsMaking (files : Files) (stage : Stage) : Type 0 where
  pub sup : Super
  pub fresh : List Cell
  pub making : Making sup files stage fresh

-- The invariant of a compaction: at each pair the new file followed by the cells that are not examined yet has the current
-- file's table, and a pair that has nothing in the current file has nothing in the new one.
abbrev pub Copies : List Cell → List Cell → ℕ → Type 0
Copies fresh current examined = (pair : Pair) → CopiesAt pair (needles_of fresh) (needles_of current) examined

-- the needles that are the last of their pair and not deleted, among the first so many
abbrev pub live_among : ℕ → List Needle → List Needle
live_among zero needles = []
live_among (suc n) [] = []
live_among (suc n) (needle ∷ needles) = if is_live needle needles then needle ∷ live_among n needles else live_among n needles

-- the cells of the new file, with one more where it was copied
abbrev pub with_copy : List Cell → ℕ → Cell → Bool → List Cell
with_copy fresh at cell copied = if copied then fresh ++ renewed at cell ∷ [] else fresh

-- One more cell is examined. It is copied, in version 2, exactly where it is the last one of its pair and not deleted. What holds of
-- a pair holds of it still, and where the live needles were copied and no other, they are.
pub record MovesOn (sup : Super) (files : Files) (old : VolumeFile) (stage : Stage) (current fresh : List Cell) (examined : ℕ) (cell : Cell) (at : ℕ) (copied : Bool) : Type 0 where
  pub copying : Copying sup files old stage current (with_copy fresh at cell copied) (examined + 1)
  pub live : copied ≡ is_live (needle_of_cell cell) (needles_of (drop (examined + 1) current))
  pub table : (pair : Pair) → CopiesAt pair (needles_of fresh) (needles_of current) examined → CopiesAt pair (needles_of (with_copy fresh at cell copied)) (needles_of current) (examined + 1)
  pub exact : needles_of fresh ≡ map renewed_needle (live_among examined (needles_of current))
      → needles_of (with_copy fresh at cell copied) ≡ map renewed_needle (live_among (examined + 1) (needles_of current))

-- a delete was repeated: the last cell of the pair is deleted
pub record Repeats (sup : Super) (files : Files) (old : VolumeFile) (stage : Stage) (current fresh : List Cell) (examined : ℕ) (pair : Pair) : Type 0 where
  pub flagged : List Cell
  pub copying : Copying sup files old stage current flagged examined
  pub needles : needles_of flagged ≡ flag_last pair (needles_of fresh)

-- all files but the two of this generation are as they were
abbrev pub KeepsOtherFiles : ℕ → Files → Files → Type 0
KeepsOtherFiles generation old new = (other : ℕ) → other ≢ volume_file generation → other ≢ index_file generation → new other ≡ old other

-- THE END

-- what stands on the new files: each cell has its record
abbrev pub stored_of : Stage → List Cell → Stored
stored_of stage fresh = record { cells = fresh; end = stage.volume.end; records = length fresh; generation = stage.generation }
