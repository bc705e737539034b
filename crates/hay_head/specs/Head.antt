-- What a head file is, and where it is damaged.
use Rattle.std.specs.Prelude.{◌≡◌, ◌⊎◌, ◌<◌, ◌≤◌, ◌+◌, ◌*◌, ℕ, List, length, take, drop}
use Rattle.std.specs.List.{range_with_len}
use Rattle.std.specs.Int.{bytes_high_first}
use Rattle.hay_needle.specs.declared.settings.Super.{Super}
use Rattle.hay_needle.specs.Super.{super_bytes}
use Rattle.hay_needle.specs.declared.settings.TheConstants.{LAST_GENERATION}
use Rattle.hay_disk.specs.Gate.{magic_bytes, record_of, IsClosed, HasBytesAt}
use Rattle.hay_head.specs.Rows.{HasRows, IsSuperFaultAt}

-- `HEADROW1`
abbrev pub head_magic : ℕ
head_magic = 0x48454144524f5731

-- the row of a generation
unfoldable pub head_row : ℕ → List ℕ
head_row generation = record_of head_magic (bytes_high_first 8 generation)

-- where the row of a generation is due
abbrev pub row_place : ℕ → ℕ
row_place generation = 64 + generation * 16

-- the rows of the generations 0, 1, .. below n stand behind the superblock
abbrev pub LeadsTo : List ℕ → List ℕ → ℕ → Type 0
LeadsTo superblock file n = HasRows head_row superblock file (range_with_len 0 n) (row_place n)

-- A head file: this superblock, the rows of the generations from 0 up to this one, eight bytes that are not the row
-- magic, then anything.
pub record IsHead (superblock file : List ℕ) (generation : ℕ) : Type 0 where
  pub most : generation ≤ LAST_GENERATION
  pub rows : LeadsTo superblock file (generation + 1)
  pub closed : IsClosed head_magic (row_place (generation + 1)) file

-- Where the row of generation n is due stands neither it nor an end mark: the file ends too early, or the magic begins
-- anything but this row, or there may be no such generation, or the row is missing and it is the first.
abbrev pub IsBrokenRow : ℕ → List ℕ → Type 0
IsBrokenRow n file =
    (length file < row_place n + 8)
    ⊎ ((take 8 (drop (row_place n) file) ≡ magic_bytes head_magic) × ((HasBytesAt (row_place n) (head_row n) file → ⊥) ⊎ (LAST_GENERATION < n)))
    ⊎ ((n ≡ 0) × IsClosed head_magic (row_place n) file)

-- Rows of generations that there may be lead up to `at`, and there the next one is broken.
pub record IsBrokenAt (superblock file : List ℕ) (at : ℕ) : Type 0 where
  pub next : ℕ
  pub most : next ≤ LAST_GENERATION + 1
  pub place : at ≡ row_place next
  pub lead : LeadsTo superblock file next
  pub broken : IsBrokenRow next file

-- A head file is damaged at one place at most: that of its superblock's first fault, or of its first broken row.
abbrev pub IsDamagedHead : Super → List ℕ → ℕ → Type 0
IsDamagedHead sup file at = IsSuperFaultAt sup file at ⊎ IsBrokenAt (super_bytes sup) file at
