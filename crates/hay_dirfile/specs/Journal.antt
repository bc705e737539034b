-- What a journal is, and where it is damaged.
use Rattle.std.specs.Prelude.{◌≡◌, ◌⊎◌, ◌<◌, ◌+◌, ◌*◌, ◌^◌, ℕ, List, ◌++◌, length, take, drop}
use Rattle.std.specs.List.{All}
use Rattle.std.specs.Int.{bytes_high_first}
use Rattle.hay_needle.specs.declared.settings.Super.{Super}
use Rattle.hay_needle.specs.Super.{super_bytes}
use Rattle.hay_disk.specs.Gate.{magic_bytes, record_of, IsClosed, HasBytesAt}
use Rattle.hay_head.specs.Rows.{HasRows, IsSuperFaultAt}
use Rattle.hay_dirfile.specs.declared.row.DirRow.{DirRow}

-- `HOMEROW1`
abbrev pub journal_magic : ℕ
journal_magic = 0x484f4d45524f5731

-- a row behind its magic
unfoldable pub row_fields : DirRow → List ℕ
row_fields row = bytes_high_first 8 row.pair.key ++ (bytes_high_first 4 row.pair.alt ++ bytes_high_first 4 row.volume)

-- a row
unfoldable pub journal_row : DirRow → List ℕ
journal_row row = record_of journal_magic (row_fields row)

-- where these rows end
abbrev pub journal_end : List DirRow → ℕ
journal_end rows = 64 + length rows * 24

-- the row is of a pair, and of one of so many volumes
pub record IsRowOf (volumes : ℕ) (row : DirRow) : Type 0 where
  pub key : row.pair.key < 2 ^ 64
  pub alt : row.pair.alt < 2 ^ 32
  pub volume : row.volume < volumes

-- these rows, of so many volumes, stand behind the superblock
pub record LeadsTo (superblock : List ℕ) (volumes : ℕ) (file : List ℕ) (rows : List DirRow) : Type 0 where
  pub all : All (IsRowOf volumes) rows
  pub stand : HasRows journal_row superblock file rows (journal_end rows)

-- A journal: this superblock, these rows, eight bytes that are not the row magic, then anything.
pub record IsJournal (superblock : List ℕ) (volumes : ℕ) (file : List ℕ) (rows : List DirRow) : Type 0 where
  pub lead : LeadsTo superblock volumes file rows
  pub closed : IsClosed journal_magic (journal_end rows) file

-- Where a row or the end mark is due stands neither: the file ends too early, or the magic begins no row of a volume.
abbrev pub IsBrokenRow : ℕ → ℕ → List ℕ → Type 0
IsBrokenRow volumes at file =
    (length file < at + 8)
    ⊎ ((take 8 (drop at file) ≡ magic_bytes journal_magic) × ((row : DirRow) → IsRowOf volumes row → HasBytesAt at (journal_row row) file → ⊥))

-- Rows lead up to `at`, and the next one is broken.
pub record IsBrokenAt (superblock : List ℕ) (volumes : ℕ) (file : List ℕ) (at : ℕ) : Type 0 where
  pub rows : List DirRow
  pub place : at ≡ journal_end rows
  pub lead : LeadsTo superblock volumes file rows
  pub broken : IsBrokenRow volumes at file

-- A journal is damaged at one place at most: that of its superblock's first fault, or of its first broken row.
abbrev pub IsDamagedJournal : Super → List ℕ → ℕ → Type 0
IsDamagedJournal sup file at = IsSuperFaultAt sup file at ⊎ IsBrokenAt (super_bytes sup) sup.settings.volumes file at
