-- The first damage of a replica's disk, in the order of the files: the head; the superblock of the volume file that it names,
-- its needles and their end mark; its index, each of whose records is that of the cell of its number.
use Rattle.std.specs.Prelude.{◌≡◌, ◌⊎◌, ℕ, List, map, take}
use Rattle.hay_needle.specs.declared.needle.Cell.{Cell}
use Rattle.hay_needle.specs.declared.settings.Super.{Super}
use Rattle.hay_needle.specs.Needle.{needle_magic}
use Rattle.hay_needle.specs.Super.{super_bytes}
use Rattle.hay_disk.specs.Gate.{IsClosed}
use Rattle.hay_head.specs.Head.{IsDamagedHead, IsHead}
use Rattle.hay_head.specs.Rows.{IsSuperFaultAt}
use Rattle.hay_volume.specs.Cells.{HasCells, IsDamagedCell}
use Rattle.hay_open.specs.Stored.{cell_record, head_super, index_file, index_super, volume_file, volume_super}
use Rattle.hay_check.specs.Listing.{IsDamagedListing}

-- The head names the generation, and its volume file has this superblock, whole needles of these cells, checksums included,
-- and the end mark behind them.
pub record HoldsCells (sup : Super) (contents : ℕ → List ℕ) (generation : ℕ) (cells : List Cell) (end : ℕ) : Type 0 where
  pub head : IsHead (super_bytes (head_super sup)) (contents 0) generation
  pub begins : take 64 (contents (volume_file generation)) ≡ super_bytes (volume_super sup generation)
  pub has : HasCells 64 (contents (volume_file generation)) cells end
  pub closed : IsClosed needle_magic end (contents (volume_file generation))

-- of the volume file that the head names: its superblock, or behind it a needle or the end mark
abbrev pub IsDamagedVolume : Super → List ℕ → ℕ → Type 0
IsDamagedVolume sup file at =
    IsSuperFaultAt sup file at ⊎ ((take 64 file ≡ super_bytes sup) × IsDamagedCell 64 file at)

-- up to the cells
abbrev pub IsDamagedFront : Super → (ℕ → List ℕ) → ℕ → ℕ → Type 0
IsDamagedFront sup contents file at =
    ((file ≡ 0) × IsDamagedHead (head_super sup) (contents 0) at)
    ⊎ ((generation : ℕ) × IsHead (super_bytes (head_super sup)) (contents 0) generation
    × (file ≡ volume_file generation) × IsDamagedVolume (volume_super sup generation) (contents (volume_file generation)) at)

-- behind the cells
abbrev pub IsDamagedRest : Super → (ℕ → List ℕ) → ℕ → ℕ → Type 0
IsDamagedRest sup contents file at =
    (generation : ℕ) × (cells : List Cell) × (end : ℕ) × HoldsCells sup contents generation cells end
    × (file ≡ index_file generation) × IsDamagedListing (index_super sup generation) (contents (index_file generation)) (map cell_record cells) at

-- The first damage of a disk whose head is not empty.
unfoldable pub IsFirstDamage : Super → (ℕ → List ℕ) → ℕ → ℕ → Type 0
IsFirstDamage sup contents file at = IsDamagedFront sup contents file at ⊎ IsDamagedRest sup contents file at
