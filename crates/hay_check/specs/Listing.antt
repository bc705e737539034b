-- An index file beside the cells of its volume file: whether each of its records is that of the cell of its number.
use Rattle.std.specs.Prelude.{◌≡◌, ◌≢◌, ◌⊎◌, ◌≤◌, ◌+◌, ◌*◌, ℕ, List, ◌∷◌, ◌++◌, length, take, drop, Some}
use Rattle.std.specs.List.{slice_get}
use Rattle.hay_needle.specs.declared.settings.Super.{Super}
use Rattle.hay_needle.specs.declared.superblock.SuperFault.{SuperFault}
use Rattle.hay_needle.specs.Faults.{first_fault}
use Rattle.hay_needle.specs.Super.{super_bytes, super_tests, fault_place}
use Rattle.hay_disk.specs.Gate.{IsClosed}
use Rattle.hay_index.specs.declared.record.Record.{Record}
use Rattle.hay_index.specs.Records.{BeginsWithBlock, HasRecords, IsBrokenAt, index_magic}

-- Behind this superblock, blocks lead up to `end`, where the end mark stands; their records are the first of these rows.
pub record ListsFirst (superblock file : List ℕ) (rows : List Record) (count : ℕ) : Type 0 where
  pub end : ℕ
  pub within : count ≤ length rows
  pub has : HasRecords superblock file (take count rows) end
  pub closed : IsClosed index_magic end file

-- DAMAGE

-- The records of a block, the first of which stands at `first`, are the first of these rows up to the record at `place`,
-- which is not the next row, or has none.
pub record HasMisfit (rows block : List Record) (first place : ℕ) : Type 0 where
  pub before : List Record
  pub misfit : Record
  pub after : List Record
  pub parts : block ≡ before ++ misfit ∷ after
  pub rest : List Record
  pub fit : rows ≡ before ++ rest
  pub other : slice_get rest 0 ≢ Some misfit
  pub stands : place ≡ first + 32 * length before

-- A block stands at `at`, and one of its records is not the next of these rows.
pub record IsMisfitAt (at : ℕ) (file : List ℕ) (rows : List Record) (place : ℕ) : Type 0 where
  pub block : List Record
  pub stands : BeginsWithBlock (drop at file) block
  pub misfit : HasMisfit rows block (at + 16) place

-- Blocks lead from the superblock up to `at`, and their records are the first of these rows. What is due there is broken at
-- `place`: a block or the end mark, or a record that is not the next of the other rows.
pub record IsBrokenBehind (superblock file : List ℕ) (rows : List Record) (place : ℕ) : Type 0 where
  pub records : List Record
  pub rest : List Record
  pub fit : rows ≡ records ++ rest
  pub at : ℕ
  pub lead : HasRecords superblock file records at
  pub broken : (IsBrokenAt at file × (place ≡ at)) ⊎ IsMisfitAt at file rest place

-- The first damage of an index file whose records are to be these rows: a fault of the superblock, or behind it that of a
-- block, of a record or of the end mark.
abbrev pub IsDamagedListing : Super → List ℕ → List Record → ℕ → Type 0
IsDamagedListing sup file rows place =
    ((fault : SuperFault) × (first_fault (super_tests file sup) ≡ Some fault) × (place ≡ fault_place fault))
    ⊎ ((take 64 file ≡ super_bytes sup) × IsBrokenBehind (super_bytes sup) file rows place)
