-- What an opening reads, and where it finds damage: at the first place, in the order in which it reads, where what stands is
-- not of the format.
use Rattle.std.specs.Prelude.{◌≡◌, ◌⊎◌, ◌<◌, ◌+◌, ◌-◌, ◌*◌, ◌^◌, min, ℕ, List, length, take, drop, Some}
use Rattle.std.specs.List.{slice_get}
use Rattle.hay_needle.specs.declared.needle.Cell.{Cell}
use Rattle.hay_needle.specs.declared.settings.Super.{Super}
use Rattle.hay_needle.specs.Needle.{Head, HeadBytes, needle_magic}
use Rattle.hay_needle.specs.Super.{super_bytes}
use Rattle.hay_disk.specs.Gate.{IsClosed}
use Rattle.hay_head.specs.Head.{IsDamagedHead, IsHead}
use Rattle.hay_head.specs.Rows.{IsSuperFaultAt}
use Rattle.hay_volume.specs.Cells.{HasCells}
use Rattle.hay_volume.specs.Cells as volume
use Rattle.hay_index.specs.declared.record.Record.{Record}
use Rattle.hay_index.specs.Records.{BeginsWithBlock, HasRecords, IsIndex, place_behind}
use Rattle.hay_index.specs.Records as index
use Rattle.hay_open.specs.Stored.{IsVoid, head_super, index_file, index_super, volume_file, volume_super}

-- RECORDS AND THEIR NEEDLES

-- the head of a needle of this pair and size stands at the record's place
pub record FitsNeedle (r : Record) (volume : List ℕ) : Type 0 where
  pub head : Head
  pub stands : HeadBytes (take 36 (drop r.at volume)) head
  pub pair : head.pair ≡ r.pair
  pub size : head.size ≡ r.size

-- no head of a needle stands there
abbrev pub LacksNeedle : Record → List ℕ → Type 0
LacksNeedle r volume = (head : Head) → HeadBytes (take 36 (drop r.at volume)) head → ⊥

-- one of another pair or size stands there
abbrev pub HasOtherNeedle : Record → List ℕ → Type 0
HasOtherNeedle r volume = (head : Head) × HeadBytes (take 36 (drop r.at volume)) head × (head.pair ≡ r.pair → head.size ≡ r.size → ⊥)

-- The record of this number stands at `at` in an index file: blocks lead up to the block that has it.
pub record IsRecordAt (superblock file : List ℕ) (number at : ℕ) : Type 0 where
  pub before : List Record
  pub start : ℕ
  pub block : List Record
  pub step : ℕ
  pub lead : HasRecords superblock file before start
  pub stands : BeginsWithBlock (drop start file) block
  pub number_is : number ≡ length before + step
  pub within : step < length block
  pub place : at ≡ start + 16 + 32 * step

-- A record does not fit its needle: the volume file is damaged where no head stands, and the index where another one does.
abbrev pub IsMisfit : Super → (ℕ → List ℕ) → ℕ → List Record → ℕ → ℕ → ℕ → Type 0
IsMisfit sup contents generation records number file at =
    (r : Record) × (slice_get records number ≡ Some r)
    × (((file ≡ volume_file generation) × (at ≡ r.at) × LacksNeedle r (contents (volume_file generation)))
    ⊎ ((file ≡ index_file generation) × HasOtherNeedle r (contents (volume_file generation))
    × IsRecordAt (super_bytes (index_super sup generation)) (contents (index_file generation)) number at))

-- WHAT IS READ

-- the head names the generation, its volume file begins with its superblock, and its index has these records
pub record IsRecorded (sup : Super) (contents : ℕ → List ℕ) (generation : ℕ) (records : List Record) (end : ℕ) : Type 0 where
  pub head : IsHead (super_bytes (head_super sup)) (contents 0) generation
  pub begins : take 64 (contents (volume_file generation)) ≡ super_bytes (volume_super sup generation)
  pub index : IsIndex (super_bytes (index_super sup generation)) (contents (index_file generation)) records end

-- the last record, if there is one, fits its needle
abbrev pub LastFits : List Record → List ℕ → Type 0
LastFits records volume = (number : ℕ) (r : Record) → number + 1 ≡ length records → slice_get records number ≡ Some r → FitsNeedle r volume

-- where the last recorded needle ends, or the greatest number, up to which no file goes
abbrev pub scan_start : List Record → ℕ
scan_start records = min (place_behind 64 records) (2 ^ 64 - 1)

-- Behind the last recorded needle the volume file has these cells, which have no record.
pub record HasOrphans (volume : List ℕ) (records : List Record) (orphans : List Cell) (end : ℕ) : Type 0 where
  pub fits : LastFits records volume
  pub has : HasCells (place_behind 64 records) volume orphans end
  pub closed : IsClosed needle_magic end volume

-- An opening reads so of a disk, whatever else the disk has: its head names the generation, the index has these records, and behind the
-- last recorded needle the volume file has these cells without a record, up to the end.
pub record ReadsAs (sup : Super) (contents : ℕ → List ℕ) (generation : ℕ) (records : List Record) (orphans : List Cell) (end : ℕ) : Type 0 where
  pub index_end : ℕ
  pub recorded : IsRecorded sup contents generation records index_end
  pub behind : HasOrphans (contents (volume_file generation)) records orphans end

-- THE FIRST DAMAGE

-- Up to the index: of the head file, of the superblock of the volume file, or of the index file.
abbrev pub IsDamagedFront : Super → (ℕ → List ℕ) → ℕ → ℕ → Type 0
IsDamagedFront sup contents file at =
    ((file ≡ 0) × IsDamagedHead (head_super sup) (contents 0) at)
    ⊎ ((generation : ℕ) × IsHead (super_bytes (head_super sup)) (contents 0) generation
    × (((file ≡ volume_file generation) × IsSuperFaultAt (volume_super sup generation) (contents (volume_file generation)) at)
    ⊎ ((take 64 (contents (volume_file generation)) ≡ super_bytes (volume_super sup generation))
    × (file ≡ index_file generation) × index.IsDamagedIndex (index_super sup generation) (contents (index_file generation)) at)))

-- Behind the index: its last record does not fit; or it does, and there is damage among the cells behind that needle.
abbrev pub IsDamagedRest : Super → (ℕ → List ℕ) → ℕ → List Record → ℕ → ℕ → Type 0
IsDamagedRest sup contents generation records file at =
    ((number : ℕ) × (number + 1 ≡ length records) × IsMisfit sup contents generation records number file at)
    ⊎ (LastFits records (contents (volume_file generation))
    × (file ≡ volume_file generation) × volume.IsDamagedCell (scan_start records) (contents (volume_file generation)) at)

-- What is read first of all that is damaged.
abbrev pub IsReadingDamage : Super → (ℕ → List ℕ) → ℕ → ℕ → Type 0
IsReadingDamage sup contents file at =
    IsDamagedFront sup contents file at
    ⊎ ((generation : ℕ) × (records : List Record) × (index_end : ℕ) × IsRecorded sup contents generation records index_end
    × IsDamagedRest sup contents generation records file at)

-- The first damage of a disk that is not void.
unfoldable pub IsOpeningDamage : Super → (ℕ → List ℕ) → ℕ → ℕ → Type 0
IsOpeningDamage sup contents file at = (IsVoid contents → ⊥) × IsReadingDamage sup contents file at
