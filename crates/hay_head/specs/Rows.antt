-- Files of a superblock, rows of one length that each begin with one magic, and the end mark.
use Rattle.std.specs.Prelude.{◌≡◌, ◌⊎◌, ◌<◌, ◌+◌, ℕ, List, ◌++◌, length, take, drop, Some}
use Rattle.std.specs.List.{flat_map}
use Rattle.hay_needle.specs.declared.settings.Super.{Super}
use Rattle.hay_needle.specs.declared.superblock.SuperFault.{SuperFault}
use Rattle.hay_needle.specs.Super.{super_tests, fault_place}
use Rattle.hay_needle.specs.Faults.{first_fault}
use Rattle.hay_disk.specs.Gate.{magic_bytes}

-- The file begins with this superblock of 64 bytes and these rows without gaps, and the last of them ends at `end`.
pub record HasRows {R : Type 0} (row : R → List ℕ) (superblock file : List ℕ) (rows : List R) (end : ℕ) : Type 0 where
  pub long : length superblock ≡ 64
  pub front : take end file ≡ superblock ++ flat_map row rows
  pub ends : 64 + length (flat_map row rows) ≡ end

-- the first 64 bytes are not the superblock, and its first fault has this place
pub record IsSuperFaultAt (sup : Super) (file : List ℕ) (at : ℕ) : Type 0 where
  pub fault : SuperFault
  pub first : first_fault (super_tests (take 64 file) sup) ≡ Some fault
  pub place : fault_place fault ≡ at

-- The file ends too early for the end mark at `at`, or for the row of n bytes whose magic stands there.
abbrev pub IsCutAt : ℕ → ℕ → ℕ → List ℕ → Type 0
IsCutAt magic n at file =
    (length file < at + 8) ⊎ ((take 8 (drop at file) ≡ magic_bytes magic) × (length file < at + n))
