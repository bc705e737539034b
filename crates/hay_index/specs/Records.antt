-- What an index file is, and where it is damaged. All numbers are big-endian.
use Rattle.std.specs.Prelude.{◌≡◌, ◌≢◌, ◌⊎◌, ◌<◌, ◌+◌, ◌*◌, ◌^◌, ℕ, List, [], ◌∷◌, ◌++◌, length, take, drop, Some, All, ⊤}
use Rattle.std.specs.List.{flat_map}
use Rattle.byteorder.specs.Endian.{big_bytes}
use Rattle.hay_needle.specs.declared.settings.Super.{Super}
use Rattle.hay_needle.specs.declared.superblock.SuperFault.{SuperFault}
use Rattle.hay_needle.specs.Faults.{first_fault}
use Rattle.hay_needle.specs.Sizes.{needle_total}
use Rattle.hay_needle.specs.Super.{super_bytes, super_tests, fault_place}
use Rattle.hay_disk.specs.Gate.{magic_bytes, record_of, IsClosed}
use Rattle.hay_index.specs.declared.record.Record.{Record}

-- `INDEXBLK`
abbrev pub index_magic : ℕ
index_magic = 0x494e444558424c4b

-- the 32 bytes of a record
unfoldable pub record_bytes : Record → List ℕ
record_bytes r = big_bytes 8 r.pair.key ++ (big_bytes 4 r.pair.alt ++ (big_bytes 4 0 ++ (big_bytes 8 r.at ++ (big_bytes 4 r.size ++ big_bytes 4 0))))

-- a block behind its magic: how many records it has, and these
abbrev pub block_rest : List Record → List ℕ
block_rest records = big_bytes 8 (length records) ++ flat_map record_bytes records

-- the block of these records
abbrev pub block_bytes : List Record → List ℕ
block_bytes records = record_of index_magic (block_rest records)

-- the numbers of a record are those of its fields
pub record RecordFits (r : Record) : Type 0 where
  pub key : r.pair.key < 2 ^ 64
  pub alt : r.pair.alt < 2 ^ 32
  pub at : r.at < 2 ^ 64
  pub size : r.size < 2 ^ 32

-- a block has one record at least
pub record IsBlock (records : List Record) : Type 0 where
  pub some : 0 < length records
  pub fit : All RecordFits records

-- the bytes begin with the block of these records
pub record BeginsWithBlock (bytes : List ℕ) (records : List Record) : Type 0 where
  pub rest : List ℕ
  pub parts : bytes ≡ block_bytes records ++ rest
  pub is : IsBlock records

-- Each record's place is the one before plus the bytes of that needle, and the first record's is `at`.
abbrev pub AreInRow : ℕ → List Record → Type 0
AreInRow at [] = ⊤
AreInRow at (r ∷ records) = (r.at ≡ at) × AreInRow (at + needle_total r.size) records

-- the place of the next record behind these
abbrev pub place_behind : ℕ → List Record → ℕ
place_behind at [] = at
place_behind at (r ∷ records) = place_behind (at + needle_total r.size) records

-- Up to `end` the file is this superblock and blocks of these records, without gaps.
pub record HasRecords (superblock file : List ℕ) (records : List Record) (end : ℕ) : Type 0 where
  pub blocks : List (List Record)
  pub sized : length superblock ≡ 64
  pub begins : take end file ≡ superblock ++ flat_map block_bytes blocks
  pub ends : length (superblock ++ flat_map block_bytes blocks) ≡ end
  pub whole : All IsBlock blocks
  pub are : flat_map (λ block. block) blocks ≡ records

-- An index file: this superblock, blocks of these records without gaps up to `end`, eight bytes that are not a block's
-- magic, then anything. The records are in the row of places, from 64 on.
pub record IsIndex (superblock file : List ℕ) (records : List Record) (end : ℕ) : Type 0 where
  pub has : HasRecords superblock file records end
  pub row : AreInRow 64 records
  pub closed : IsClosed index_magic end file

-- DAMAGE

-- Fewer than eight bytes stand at `at`, or the magic stands there, and no block.
abbrev pub IsBrokenAt : ℕ → List ℕ → Type 0
IsBrokenAt at file =
    (length file < at + 8)
    ⊎ ((take 8 (drop at file) ≡ magic_bytes index_magic) × ((records : List Record) → BeginsWithBlock (drop at file) records → ⊥))

-- Of a block's records, the first of which stands at `first`, the one at `place` is the first that is not in the row behind
-- the others.
pub record HasStray (records block : List Record) (first place : ℕ) : Type 0 where
  pub before : List Record
  pub stray : Record
  pub after : List Record
  pub parts : block ≡ before ++ stray ∷ after
  pub row : AreInRow 64 (records ++ before)
  pub other : stray.at ≢ place_behind 64 (records ++ before)
  pub stands : place ≡ first + 32 * length before

-- A block stands at `at`, and one of its records is not in the row.
pub record IsStrayAt (at : ℕ) (file : List ℕ) (records : List Record) (place : ℕ) : Type 0 where
  pub block : List Record
  pub stands : BeginsWithBlock (drop at file) block
  pub stray : HasStray records block (at + 16) place

-- Blocks lead from the superblock up to `at`, and what is due there is broken at `place`.
pub record IsBrokenBehind (superblock file : List ℕ) (place : ℕ) : Type 0 where
  pub records : List Record
  pub at : ℕ
  pub lead : HasRecords superblock file records at
  pub row : AreInRow 64 records
  pub broken : (IsBrokenAt at file × (place ≡ at)) ⊎ IsStrayAt at file records place

-- The first damage: a fault of the superblock, or behind it that of a block, of a record or of the end mark.
abbrev pub IsDamagedIndex : Super → List ℕ → ℕ → Type 0
IsDamagedIndex sup file place =
    ((fault : SuperFault) × (first_fault (super_tests file sup) ≡ Some fault) × (place ≡ fault_place fault))
    ⊎ ((take 64 file ≡ super_bytes sup) × IsBrokenBehind (super_bytes sup) file place)
