-- What a volume file is, and where it is damaged.
use Rattle.std.specs.Prelude.{◌≡◌, ◌⊎◌, ◌<◌, ◌+◌, ℕ, Bool, false, nat_eq, List, [], ◌∷◌, ◌++◌, length, take, drop, map, if◌then◌else◌}
use Rattle.hay_needle.specs.declared.needle.Cell.{Cell}
use Rattle.hay_needle.specs.declared.needle.CellHead.{CellHead}
use Rattle.hay_needle.specs.declared.needle.Cookie.{Cookie}
use Rattle.hay_needle.specs.declared.needle.Needle.{Needle}
use Rattle.hay_needle.specs.declared.needle.Pair.{Pair}
use Rattle.hay_needle.specs.declared.needle.Version.TheVariants.{Two}
use Rattle.hay_needle.specs.Needle.{needle_magic, needle_of_cell, NeedleBytes, BeginsWithNeedle}
use Rattle.hay_disk.specs.Gate.{magic_bytes, IsClosed, HasBytesAt, end_mark}

-- the bytes are the needle of this cell, and it stands at `at`
pub record IsCellAt (at : ℕ) (bytes : List ℕ) (cell : Cell) : Type 0 where
  pub place : cell.at ≡ at
  pub is : NeedleBytes bytes (needle_of_cell cell)

-- the bytes are the needles of these cells without gaps, and the first of them stands at `at`
abbrev pub AreCellsAt : ℕ → List ℕ → List Cell → Type 0
AreCellsAt at bytes [] = bytes ≡ []
AreCellsAt at bytes (cell ∷ cells) =
    (needle : List ℕ) × (rest : List ℕ) × (bytes ≡ needle ++ rest) × IsCellAt at needle cell × AreCellsAt (at + length needle) rest cells

-- the needle of this cell stands at `at`
pub record StandsCell (at : ℕ) (file : List ℕ) (cell : Cell) : Type 0 where
  pub needle : List ℕ
  pub is : IsCellAt at needle cell
  pub stand : HasBytesAt at needle file

-- from `at` to `end` the file has the needles of these cells without gaps
pub record HasCells (at : ℕ) (file : List ℕ) (cells : List Cell) (end : ℕ) : Type 0 where
  pub needles : List ℕ
  pub are : AreCellsAt at needles cells
  pub stand : HasBytesAt at needles file
  pub ends : at + length needles ≡ end

-- A volume file: this superblock, the needles of these cells without gaps from 64 to `end`, eight bytes that are not
-- the needle magic, then anything.
pub record IsVolume (superblock file : List ℕ) (cells : List Cell) (end : ℕ) : Type 0 where
  pub begins : take 64 file ≡ superblock
  pub has : HasCells 64 file cells end
  pub closed : IsClosed needle_magic end file

-- a needle or the end mark is due at `at`, and neither stands there
abbrev pub IsBrokenAt : ℕ → List ℕ → Type 0
IsBrokenAt at file =
    (length file < at + 8)
    ⊎ ((take 8 (drop at file) ≡ magic_bytes needle_magic) × ((n : Needle) → BeginsWithNeedle (drop at file) n → ⊥))

-- Needles lead from `from` up to `at`, and there the file is broken.
pub record IsDamagedCell (from : ℕ) (file : List ℕ) (at : ℕ) : Type 0 where
  pub cells : List Cell
  pub lead : HasCells from file cells at
  pub broken : IsBrokenAt at file

-- the cell of a new photo: of version 2, and not deleted
abbrev pub live_cell : ℕ → Pair → Cookie → List ℕ → Cell
live_cell at pair cookie photo = record { at = at; version = Two; pair = pair; cookie = cookie; bytes = photo; deleted = false }

-- the bytes are this needle and the end mark behind it
pub record IsMarked (bytes : List ℕ) (n : Needle) : Type 0 where
  pub needle : List ℕ
  pub parts : bytes ≡ needle ++ end_mark
  pub is : NeedleBytes needle n

-- one of the cells stands at `at`
abbrev pub HasPlace : ℕ → List Cell → Type 0
HasPlace at [] = ⊥
HasPlace at (cell ∷ cells) = (cell.at ≡ at) ⊎ HasPlace at cells

-- the cells, the one at `at` deleted or not
abbrev pub with_flag : ℕ → Bool → List Cell → List Cell
with_flag at deleted cells = map (λ (cell : Cell). if nat_eq cell.at at then record cell { deleted = deleted } else cell) cells

-- the needles of cells, without their places
abbrev pub needles_of : List Cell → List Needle
needles_of cells = map needle_of_cell cells

-- a cell without its bytes
abbrev pub cell_head : Cell → CellHead
cell_head cell = record { at = cell.at; version = cell.version; pair = cell.pair; cookie = cell.cookie; size = length cell.bytes; deleted = cell.deleted }
