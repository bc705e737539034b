-- What is seen of a directory in memory, whatever its disk tells, and how each call changes that.
use Rattle.std.specs.Prelude.{◌≡◌, ◌≢◌, ◌+◌, ℕ, Bool, false, List, length, replicate, slice_set, Option, Some, None}
use Rattle.hay_needle.specs.declared.needle.Pair.{Pair}
use Rattle.hay_core.specs.declared.entry.CoreTag.{CoreTag}
use Rattle.hay_legal.specs.declared.known.HomeRow.{HomeRow}
use Rattle.hay_legal.specs.Known.{home_in}
use Rattle.hay_directory.specs.declared.fault.DirFault.{DirFault}
use Rattle.hay_directory.specs.declared.fault.DirFault.TheVariants.{Failed, Frozen, NoMemory}
use Rattle.hay_directory.specs.declared.mode.Unsure.{Unsure}
use Rattle.hay_directory.specs.State.{State, home_of, unsure_of}

-- The home of each pair, how many rows there are, the row that was broken off, and which machines are drained.
pub record DirectorySeen : Type 0 where
  pub homes : Pair → Option ℕ
  pub rows : ℕ
  pub pending : Option Unsure
  pub drained : List Bool

abbrev pub directory_seen : {D : Type 0} → State D → DirectorySeen
directory_seen directory = record { homes = home_of directory; rows = directory.count; pending = unsure_of directory.mode; drained = directory.drained }

-- each pair has the home that it had
abbrev pub KeepsHomesSeen : DirectorySeen → DirectorySeen → Type 0
KeepsHomesSeen old new = (pair : Pair) → new.homes pair ≡ old.homes pair

-- Nothing is seen otherwise.
pub record KeepsSeen (old new : DirectorySeen) : Type 0 where
  pub homes : KeepsHomesSeen old new
  pub rows : new.rows ≡ old.rows
  pub pending : new.pending ≡ old.pending
  pub drained : new.drained ≡ old.drained

-- ROWS

-- The pair has its first home, by one row more. Each other pair keeps its home, and no row is pending.
pub record HomeSeen (pair : Pair) (volume : ℕ) (old new : DirectorySeen) : Type 0 where
  pub homeless : old.homes pair ≡ None
  pub home : new.homes pair ≡ Some volume
  pub others : (other : Pair) → other ≢ pair → new.homes other ≡ old.homes other
  pub rows : new.rows ≡ old.rows + 1
  pub pending : new.pending ≡ None
  pub drained : new.drained ≡ old.drained

abbrev pub SettleSeen : Pair → ℕ → DirectorySeen → DirectorySeen → Type 0
SettleSeen pair volume old new = (old.pending ≡ None) × HomeSeen pair volume old new

-- the row that was pending is shown
abbrev pub ShowSeen : Unsure → DirectorySeen → DirectorySeen → Type 0
ShowSeen unsure old new = (old.pending ≡ Some unsure) × HomeSeen (unsure.row).pair (unsure.row).volume old new

-- This row is pending, as none was, and nothing else is seen otherwise.
pub record PendsSeen (unsure : Unsure) (old new : DirectorySeen) : Type 0 where
  pub none : old.pending ≡ None
  pub pending : new.pending ≡ Some unsure
  pub homes : KeepsHomesSeen old new
  pub rows : new.rows ≡ old.rows
  pub drained : new.drained ≡ old.drained

abbrev pub SettleRefusedSeen : CoreTag → Pair → ℕ → DirectorySeen → DirectorySeen → DirFault → Type 0
SettleRefusedSeen tag pair volume old new Frozen = ((unsure : Unsure) × (old.pending ≡ Some unsure)) × KeepsSeen old new
SettleRefusedSeen tag pair volume old new NoMemory = (old.pending ≡ None) × KeepsSeen old new
SettleRefusedSeen tag pair volume old new (Failed faults) = PendsSeen (record { tag = tag; row = record { pair = pair; volume = volume } }) old new

-- DRAINS

abbrev pub DrainSeen : ℕ → Bool → DirectorySeen → DirectorySeen → Type 0
DrainSeen machine is_drained old new = new ≡ record old { drained = slice_set old.drained machine is_drained }

-- OPENINGS AND STOPS

-- The homes are by these rows, no row is pending, and no machine is drained.
pub record OpenSeen (machines : ℕ) (rows : List HomeRow) (seen : DirectorySeen) : Type 0 where
  pub homes : (pair : Pair) → seen.homes pair ≡ home_in rows pair
  pub rows_are : seen.rows ≡ length rows
  pub pending : seen.pending ≡ None
  pub drained : seen.drained ≡ replicate machines false

-- What was pending is, and no machine is drained.
pub record ClosedSeen (machines : ℕ) (old new : DirectorySeen) : Type 0 where
  pub pending : new.pending ≡ old.pending
  pub drained : new.drained ≡ replicate machines false
