-- What an opening keeps of what it has read, and what giving out pieces does.
use Rattle.std.specs.Prelude.{◌≡◌, ◌⊎◌, ◌≤◌, ◌<◌, ◌+◌, ℕ, false, List, [], ◌∷◌, ◌++◌, length, map, take, drop, ⊤}
use Rattle.hay_needle.specs.declared.needle.Cell.{Cell}
use Rattle.hay_needle.specs.declared.needle.CellHead.{CellHead}
use Rattle.hay_needle.specs.declared.needle.Pair.{Pair}
use Rattle.hay_needle.specs.declared.settings.Super.{Super}
use Rattle.hay_disk.specs.Disk.{Files, FileState, IsSolid, KeepsOthers}
use Rattle.hay_volume.specs.Cells.{HasCells, cell_head}
use Rattle.hay_index.specs.declared.record.Record.{Record}
use Rattle.hay_index.specs.Records.{AreInRow, IsIndex, place_behind}
use Rattle.hay_map.specs.declared.place.Place.TheVariants as place
use Rattle.hay_map.specs.declared.view.OpenCell.{OpenCell}
use Rattle.hay_map.specs.Rows.{last_place}
use Rattle.hay_open.specs.declared.listing.Listing.{Listing}
use Rattle.hay_open.specs.Damage.{HasOrphans, HasOtherNeedle, IsRecordAt, IsRecorded, LacksNeedle}
use Rattle.hay_open.specs.Stored.{PlaceOf, cell_record, index_file, last_cell, volume_file}

-- the record of a cell whose head was read
abbrev pub head_record : CellHead → Record
head_record head = record { pair = head.pair; at = head.at; size = head.size }

-- The listing is what the disk has: the records of the index, then those of the cells that have none.
pub record IsListing (sup : Super) (contents : ℕ → List ℕ) (listing : Listing) : Type 0 where
  pub records : List Record
  pub orphans : List Cell
  pub is : IsRecorded sup contents listing.head.generation records listing.index.end
  pub behind : HasOrphans (contents (volume_file listing.head.generation)) records orphans listing.end
  pub volume_number : listing.volume ≡ volume_file listing.head.generation
  pub index_number : listing.index.file ≡ index_file listing.head.generation
  pub noted : listing.index.pending ≡ map cell_record orphans
  pub rows : listing.rows.items ≡ records ++ map cell_record orphans
  pub recorded : listing.recorded ≡ length records
  pub heads : listing.orphans.items ≡ map cell_head orphans

-- The listing is of these cells of a whole volume file.
pub record ListsCells (volume : List ℕ) (listing : Listing) (cells : List Cell) : Type 0 where
  pub has : HasCells 64 volume cells listing.end
  pub rows : listing.rows.items ≡ map cell_record cells
  pub heads : listing.orphans.items ≡ map cell_head (drop listing.recorded cells)

-- On any disk the rows are in the row of places, up to the end of the cells, and those behind the recorded ones are of the heads.
pub record LiesInRow (listing : Listing) : Type 0 where
  pub row : AreInRow 64 listing.rows.items
  pub ends : place_behind 64 listing.rows.items ≡ listing.end
  pub behind : drop listing.recorded listing.rows.items ≡ map head_record listing.orphans.items

-- The rows of the listing are in the row of places, and those behind the recorded ones are of cells that stand there.
pub record HoldsRows (volume : List ℕ) (listing : Listing) : Type 0 where
  pub row : AreInRow 64 listing.rows.items
  pub from : ℕ
  pub orphans : List Cell
  pub has : HasCells from volume orphans (place_behind 64 listing.rows.items)
  pub heads : listing.orphans.items ≡ map cell_head orphans
  pub behind : drop listing.recorded listing.rows.items ≡ map cell_record orphans

-- RECORDS THAT DO NOT FIT

-- the damage that a record of this number is, in a volume file and an index file with these numbers
abbrev pub IsMisfitIn : (ℕ → List ℕ) → ℕ → ℕ → Record → ℕ → ℕ → ℕ → Type 0
IsMisfitIn contents volume index r number file at =
    ((file ≡ volume) × (at ≡ r.at) × LacksNeedle r (contents volume))
    ⊎ ((file ≡ index) × HasOtherNeedle r (contents volume)
    × ((superblock : List ℕ) (records : List Record) (end : ℕ) → IsIndex superblock (contents index) records end → number < length records → IsRecordAt superblock (contents index) number at))

-- PIECES THAT WERE GIVEN OUT

-- the flags bytes of these records' needles may be written
abbrev pub RowFlagsFree : FileState → List Record → Type 0
RowFlagsFree file [] = ⊤
RowFlagsFree file (r ∷ rows) = (file.sealed (r.at + 28) ≡ false) × RowFlagsFree file rows

-- Of one file pieces were given out, of needles of these records; they end before `end`.
pub record GivesPieces (volume : ℕ) (rows : List Record) (end : ℕ) (old new : Files) : Type 0 where
  pub others : KeepsOthers volume old new
  pub now : (new volume).now ≡ (old volume).now
  pub solid : IsSolid (old volume) → IsSolid (new volume)
  pub flags : RowFlagsFree (old volume) rows → RowFlagsFree (new volume) rows
  pub free : ((k : ℕ) → end ≤ k → (old volume).sealed k ≡ false) → (k : ℕ) → end ≤ k → (new volume).sealed k ≡ false

-- PLACES

-- the places are those of the first k cells
abbrev pub ArePlaced : {P : Type 0} → Type 0 → List Cell → ℕ → List (OpenCell P) → Type 0
ArePlaced Tells whole k done = (pair : Pair) → PlaceOf Tells (last_cell (take k whole) pair) (last_place done pair place.None)
