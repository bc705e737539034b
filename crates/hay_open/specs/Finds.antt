-- What an opening answers.
use Rattle.std.specs.Prelude.{◌≡◌, ◌≤◌, ◌+◌, ◌++◌, ◌∷◌, [], ℕ, false, List, length, map, sum_by, Some}
use Rattle.std.specs.List.{AllByRecursion, AllZip, slice_get}
use Rattle.hay_needle.specs.declared.needle.Cell.{Cell}
use Rattle.hay_needle.specs.declared.settings.Super.{Super}
use Rattle.hay_needle.specs.Needle.{needle_magic}
use Rattle.hay_needle.specs.Sizes.{needle_total}
use Rattle.hay_disk.specs.Disk.{Files, FileState}
use Rattle.hay_disk.specs.Gate.{IsGate}
use Rattle.hay_head.specs.Head.{head_magic, row_place}
use Rattle.hay_index.specs.Records.{index_magic}
use Rattle.hay_index.specs.declared.record.Record.{Record}
use Rattle.hay_map.specs.declared.place.Place.{Place}
use Rattle.hay_map.specs.declared.place.Place.TheVariants as place
use Rattle.hay_map.specs.declared.view.OpenCell.{OpenCell}
use Rattle.hay_open.specs.declared.opened.Opened.{Opened}
use Rattle.hay_open.specs.Damage.{HasOrphans, IsRecorded}
use Rattle.hay_open.specs.Stored.{Stored, HeadRests, VolumeRests, IndexRests, PlaceOf, cell_record, index_file, unrecorded, volume_file}

-- The replica was opened as what its disk has, and changes can be made to each of its files.
pub record OpenedAs {P : Type 0} (sup : Super) (files : Files) (opened : Opened P) (s : Stored) : Type 0 where
  pub generation : opened.head.generation ≡ s.generation
  pub lags : s.records ≤ length s.cells
  pub head : HeadRests sup (files 0) s.generation
  pub volume : opened.volume ≡ record { file = volume_file s.generation; end = s.end; capacity = sup.settings.capacity }
  pub cells : VolumeRests sup (files (volume_file s.generation)) s
  pub index_number : opened.index.file ≡ index_file s.generation
  pub noted : opened.index.pending ≡ unrecorded s
  pub index : IndexRests sup (files (index_file s.generation)) s opened.index.end
  pub records : opened.records ≡ s.records
  pub orphans : opened.orphans + s.records ≡ length s.cells

-- the place of a recorded cell, which is not looked at
abbrev pub unseen_cell : {P : Type 0} → Record → OpenCell P
unseen_cell r = record { pair = r.pair; place = place.Unseen r.at r.size }

-- a place that was looked at, and whose needle, if it has one, stands here
abbrev pub StandsAt : {P : Type 0} → ℕ → Place P → Type 0
StandsAt at (place.Live needle) = needle.at ≡ at
StandsAt at place.Gone = Unit {0}
StandsAt at place.None = Unit {0}
StandsAt at (place.Unseen there size) = ⊥

-- The place of a cell that has no record, which was looked at.
pub record IsOrphanOf {P : Type 0} (Tells : Type 0) (cell : Cell) (one : OpenCell P) : Type 0 where
  pub pair : one.pair ≡ cell.pair
  pub place : PlaceOf Tells (Some cell) one.place
  pub stands : StandsAt cell.at one.place

-- the places of recorded cells, in order, none of which was looked at, and behind them those of cells that have no record
abbrev pub AreCellsOf : {P : Type 0} → Type 0 → List Record → List Cell → List (OpenCell P) → Type 0
AreCellsOf {P} Tells records orphans cells =
    (seen : List (OpenCell P)) × (cells ≡ map unseen_cell records ++ seen) × AllZip (IsOrphanOf Tells) orphans seen

-- The replica was opened as what its disk has, and all that the opening reads is of the format.
pub record ReadsWhole {P : Type 0} (Tells : Type 0) (sup : Super) (contents : ℕ → List ℕ) (opened : Opened P) : Type 0 where
  pub records : List Record
  pub orphans : List Cell
  pub recorded : IsRecorded sup contents opened.head.generation records opened.index.end
  pub behind : HasOrphans (contents (volume_file opened.head.generation)) records orphans opened.volume.end
  pub capacity : opened.volume.capacity ≡ sup.settings.capacity
  pub noted : opened.index.pending ≡ map cell_record orphans
  pub record_count : opened.records ≡ length records
  pub orphan_count : opened.orphans ≡ length orphans
  pub cells : AreCellsOf Tells records orphans opened.cells.items

-- The files are those of the generation that was opened, and a row, a cell and a block may be appended to them.
pub record IsReady {P : Type 0} (files : Files) (opened : Opened P) : Type 0 where
  pub volume_number : opened.volume.file ≡ volume_file opened.head.generation
  pub index_number : opened.index.file ≡ index_file opened.head.generation
  pub head : IsGate head_magic (row_place (opened.head.generation + 1)) (files 0)
  pub volume : IsGate needle_magic opened.volume.end (files opened.volume.file)
  pub index : IsGate index_magic opened.index.end (files opened.index.file)

-- how many bytes an opening reads of the volume file at most: its superblock, the head of a needle, the needles of these
-- records, which are those that the index lacks, and a magic
abbrev pub drawn_most : List Record → ℕ
drawn_most noted = 64 + 36 + sum_by (λ r. needle_total r.size) noted + 8

-- WHERE THE NEEDLES OF PLACES STAND

-- the cells, and one more whose needle stands here
abbrev pub AddsAt : {P : Type 0} → ℕ → List (OpenCell P) → List (OpenCell P) → Type 0
AddsAt {P} at old new = (cell : OpenCell P) × (new ≡ old ++ cell ∷ []) × StandsAt at cell.place

-- a needle that a place has is that of one of these records
abbrev pub IsOfRow : {P : Type 0} → List Record → Place P → Type 0
IsOfRow rows (place.Live needle) = (i : ℕ) × (r : Record) × (slice_get rows i ≡ Some r) × (needle.at ≡ r.at)
IsOfRow rows place.Gone = Unit {0}
IsOfRow rows place.None = Unit {0}
IsOfRow rows (place.Unseen at size) = (i : ℕ) × (r : Record) × (slice_get rows i ≡ Some r) × (at ≡ r.at) × (size ≡ r.size)

abbrev pub AreOfRows : {P : Type 0} → List Record → List (OpenCell P) → Type 0
AreOfRows rows cells = AllByRecursion (λ cell. IsOfRow rows cell.place) cells

-- the flags of a needle that a place has may be written, and one that was not looked at yet lies before the end
abbrev pub MayFlagPlace : {P : Type 0} → FileState → ℕ → Place P → Type 0
MayFlagPlace file end (place.Live needle) = (needle.at + 29 ≤ end) × (file.sealed (needle.at + 28) ≡ false)
MayFlagPlace file end place.Gone = Unit {0}
MayFlagPlace file end place.None = Unit {0}
MayFlagPlace file end (place.Unseen at size) = (at + needle_total size ≤ end) × (file.sealed (at + 28) ≡ false)

-- A needle that a place has lies behind the superblock, and ends at `end` or before.
abbrev pub PlaceWithin : {P : Type 0} → ℕ → Place P → Type 0
PlaceWithin end (place.Live needle) = (64 ≤ needle.at) × (needle.at + needle_total 0 ≤ end)
PlaceWithin end place.Gone = Unit {0}
PlaceWithin end place.None = Unit {0}
PlaceWithin end (place.Unseen at size) = (64 ≤ at) × (at + needle_total size ≤ end)

abbrev pub ArePlacesWithin : {P : Type 0} → ℕ → List (OpenCell P) → Type 0
ArePlacesWithin end cells = AllByRecursion (λ cell. PlaceWithin end cell.place) cells

-- Each needle that was found lies before the end of the cells, and may be flagged.
abbrev pub MayFlagEach : {P : Type 0} → Files → Opened P → Type 0
MayFlagEach files opened = AllByRecursion (λ cell. MayFlagPlace (files opened.volume.file) opened.volume.end cell.place) opened.cells.items
