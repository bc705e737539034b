-- What stands on the disk of a replica, and what an opening of it finds.
use Rattle.std.specs.Prelude.{◌≡◌, ◌⊎◌, ◌≤◌, ◌<◌, ℕ, ◌+◌, ◌*◌, true, false, List, [], ◌∷◌, length, map, take, drop, Option, Some, None, if◌then◌else◌, ⊤}
use Rattle.std.specs.Option.{option_or}
use Rattle.hay_needle.specs.declared.needle.Cell.{Cell}
use Rattle.hay_needle.specs.declared.needle.Pair.{Pair}
use Rattle.hay_needle.specs.declared.settings.FileKind.TheVariants.{Volume, Index, Head}
use Rattle.hay_needle.specs.declared.settings.Super.{Super}
use Rattle.hay_needle.specs.Needle.{needle_magic}
use Rattle.hay_needle.specs.Super.{super_bytes}
use Rattle.hay_needle.specs.Tables.{pair_eq}
use Rattle.hay_needle.specs.declared.settings.TheConstants.{LAST_GENERATION}
use Rattle.hay_disk.specs.Disk.{FileState, IsSolid}
use Rattle.hay_disk.specs.Gate.{IsGate}
use Rattle.hay_volume.specs.Cells.{IsVolume}
use Rattle.hay_index.specs.declared.record.Record.{Record}
use Rattle.hay_index.specs.Records.{IsIndex, index_magic}
use Rattle.hay_head.specs.Head.{IsHead, head_magic, row_place}
use Rattle.hay_map.specs.declared.place.Place.{Place}
use Rattle.hay_map.specs.declared.place.Place.TheVariants as place
use Rattle.hay_map.specs.Sealed.{SealedNeedle}
use Rattle.hay_map.specs.Places.{IsSealed}

-- THE FILES OF A REPLICA'S DISK

-- the volume file and the index file of a generation
abbrev pub volume_file : ℕ → ℕ
volume_file generation = 2 * generation + 1

abbrev pub index_file : ℕ → ℕ
index_file generation = 2 * generation + 2

-- a file that a replica's head or one of its generations may name
abbrev pub IsReplicaFile : ℕ → Type 0
IsReplicaFile file = (file ≡ 0) ⊎ ((generation : ℕ) × (generation ≤ LAST_GENERATION) × ((file ≡ volume_file generation) ⊎ (file ≡ index_file generation)))

-- the same of the disk in a slot of a store: the first is the Directory's, of which file 0 is all
abbrev pub IsSlotFile : ℕ → ℕ → Type 0
IsSlotFile slot file = (slot ≡ 0 → file ≡ 0) × (0 < slot → IsReplicaFile file)

-- what stands at the front of each file of the replica of this superblock
abbrev pub head_super : Super → Super
head_super sup = record sup { kind = Head; generation = 0 }

abbrev pub volume_super : Super → ℕ → Super
volume_super sup generation = record sup { kind = Volume; generation = generation }

abbrev pub index_super : Super → ℕ → Super
index_super sup generation = record sup { kind = Index; generation = generation }

-- The cells of the current volume file and their end, how many of the cells have a record in the index, and the generation.
pub record Stored : Type 0 where
  pub cells : List Cell
  pub end : ℕ
  pub records : ℕ
  pub generation : ℕ

-- the record of a cell
abbrev pub cell_record : Cell → Record
cell_record cell = record { pair = cell.pair; at = cell.at; size = length cell.bytes }

-- the records that the index has, and those that it has not
abbrev pub recorded : Stored → List Record
recorded s = take s.records (map cell_record s.cells)

abbrev pub unrecorded : Stored → List Record
unrecorded s = drop s.records (map cell_record s.cells)

-- The head names the generation, its volume file has the cells, and its index the records of the first so many.
pub record IsStored (sup : Super) (contents : ℕ → List ℕ) (s : Stored) : Type 0 where
  pub head : IsHead (super_bytes (head_super sup)) (contents 0) s.generation
  pub volume : IsVolume (super_bytes (volume_super sup s.generation)) (contents (volume_file s.generation)) s.cells s.end
  pub lags : s.records ≤ length s.cells
  pub index_end : ℕ
  pub index : IsIndex (super_bytes (index_super sup s.generation)) (contents (index_file s.generation)) (recorded s) index_end

-- what a disk has when it was just formatted
abbrev pub fresh_stored : Stored
fresh_stored = record { cells = []; end = 64; records = 0; generation = 0 }

-- a disk whose file 0 is empty was never formatted
abbrev pub IsVoid : (ℕ → List ℕ) → Type 0
IsVoid contents = contents 0 ≡ []

-- What an opening finds.
unfoldable pub OpensAs : Super → (ℕ → List ℕ) → Stored → Type 0
OpensAs sup contents s = (IsVoid contents × (s ≡ fresh_stored)) ⊎ IsStored sup contents s

-- WHERE PHOTOS STAND

-- the last cell of a pair
abbrev pub last_cell : List Cell → Pair → Option Cell
last_cell [] pair = None
last_cell (cell ∷ cells) pair = option_or (last_cell cells pair) (if pair_eq cell.pair pair then Some cell else None)

-- The piece has the needle of this cell, which stands at its place.
pub record IsSealedCell (Tells : Type 0) (cell : Cell) (needle : SealedNeedle) : Type 0 where
  pub alive : cell.deleted ≡ false
  pub at : needle.at ≡ cell.at
  pub sealed : IsSealed Tells cell.pair (record { cookie = cell.cookie; bytes = cell.bytes }) needle

-- the place of a pair whose last cell this is; one that was not looked at yet may be of a deleted cell too
abbrev pub PlaceOf : {P : Type 0} → Type 0 → Option Cell → Place P → Type 0
PlaceOf Tells (Some cell) (place.Live needle) = IsSealedCell Tells cell needle
PlaceOf Tells (Some cell) place.Gone = cell.deleted ≡ true
PlaceOf Tells (Some cell) place.None = ⊥
PlaceOf Tells (Some cell) (place.Unseen at size) = (at ≡ cell.at) × (size ≡ length cell.bytes)
PlaceOf Tells None (place.Live needle) = ⊥
PlaceOf Tells None place.Gone = ⊤
PlaceOf Tells None place.None = ⊤
PlaceOf Tells None (place.Unseen at size) = ⊥

-- FILES TO WHICH CHANGES CAN BE MADE

-- each cell's flags byte may be written
abbrev pub FlagsFree : FileState → List Cell → Type 0
FlagsFree file [] = ⊤
FlagsFree file (cell ∷ cells) = (file.sealed (cell.at + 28) ≡ false) × FlagsFree file cells

pub record HeadRests (sup : Super) (file : FileState) (generation : ℕ) : Type 0 where
  pub is : IsHead (super_bytes (head_super sup)) file.now generation
  pub solid : IsSolid file
  pub gate : IsGate head_magic (row_place (generation + 1)) file

pub record VolumeRests (sup : Super) (file : FileState) (s : Stored) : Type 0 where
  pub is : IsVolume (super_bytes (volume_super sup s.generation)) file.now s.cells s.end
  pub solid : IsSolid file
  pub gate : IsGate needle_magic s.end file
  pub flags : FlagsFree file s.cells

pub record IndexRests (sup : Super) (file : FileState) (s : Stored) (end : ℕ) : Type 0 where
  pub is : IsIndex (super_bytes (index_super sup s.generation)) file.now (recorded s) end
  pub solid : IsSolid file
  pub gate : IsGate index_magic end file
