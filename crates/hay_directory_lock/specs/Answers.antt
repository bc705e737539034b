-- What calls tell, and what one that gives a pair a home found and did, by its answer.
use Rattle.std.specs.Prelude.{◌≡◌, ◌⊎◌, ℕ, true, List, ◌++◌, length, Option, Some, None, Result, Ok, Err}
use Rattle.hay_core.specs.declared.entry.CoreTag.{CoreTag}
use Rattle.hay_legal.specs.declared.known.HomeRow.{HomeRow}
use Rattle.hay_legal.specs.Known.{home_in}
use Rattle.hay_history.specs.LaneSteps.RowDid.{AddsRow, PendsRow}
use Rattle.hay_turn.specs.Slots.{acts_in}
use Rattle.hay_meeting.specs.declared.act.DirAct.{DirAct}
use Rattle.hay_meeting.specs.Acts.{Start, row_lock}
use Rattle.hay_meeting.specs.Locks.{entries}
use Rattle.hay_holdings.specs.Holdings.{Called, Looked}
use Rattle.hay_holdings.specs.Rows.{DirectoryCall, FailedRow, MadeNoRow, MadeRow, MetFrozenDir, MetHome, RowAdded, RowFailed, RowWanted, rows_found}
use Rattle.hay_meeting.specs.Sights.{rows_stood}
use Rattle.hay_directory.specs.declared.fault.DirFault.{DirFault}
use Rattle.hay_directory.specs.declared.fault.DirFault.TheVariants as refusal
use Rattle.hay_directory_lock.specs.Acts.{SetNoFuse}
use Rattle.hay_directory_lock.specs.Begun.{BegunAt}
use Rattle.hay_directory_lock.specs.Seats.{DirectorySeatState, IsSeated, LockState}
use Rattle.hay_directory_lock.specs.Standing.{StandsAt}

-- so it is at a seat of the lock, for all that stood of the Directory where the lock was made
abbrev pub IsTold : {D : Type 0} → (D → ℕ) → (D → ℕ) → LockState → DirectorySeatState D → (Start → Type 0) → Type 0
IsTold {D} faults fuses lock seat IsSo =
    (begun : BegunAt D) (lane : ℕ) → IsSeated lock begun lane seat → (start : Start) → StandsAt faults fuses begun.directory start.directory → IsSo start

-- one holding, whatever it found
abbrev pub OneHolding : CoreTag → DirectoryCall
OneHolding tag = Called row_lock tag (λ held made. Unit {0})

-- and it set no fuse
abbrev pub UnfusedHolding : CoreTag → DirectoryCall
UnfusedHolding tag = Called row_lock tag (λ held made. SetNoFuse (acts_in made))

-- a look without the lock
abbrev pub OneLook : DirectoryCall
OneLook a b = Looked a b

module _ (start : Start) (row : HomeRow) where
  -- its pair had a home, or it has its volume for one now, and this is known of the rows that were added: so many were published
  abbrev pub Found : ℕ → List DirAct → Option DirAct → Type 0
  Found home held made = (made ≡ None) × (home_in (rows_found start held) row.pair ≡ Some home)

  abbrev pub Added : ℕ → List DirAct → Option DirAct → Type 0
  Added home held made = (home ≡ row.volume) × MadeRow (AddsRow row) made × (home_in (rows_found start held) row.pair ≡ None)

  -- what a holding found and did, by the home and the number of rows that were published then
  abbrev pub Settles : Result (ℕ × ℕ) DirFault → List DirAct → Option DirAct → Type 0
  Settles (Ok answer) held made = (answer.1 ≡ length (entries row_lock (held ++ acts_in made))) × (Found answer.0 held made ⊎ Added answer.0 held made)
  Settles (Err refusal.Frozen) held made = (made ≡ None) × (((rows_stood start held).directory).frozen ≡ true)
  Settles (Err refusal.NoMemory) held made = MadeNoRow made ⊎ MadeRow (PendsRow row) made
  Settles (Err (refusal.Failed faults)) held made = MadeRow (PendsRow row) made × FailedRow start faults held made

  module _ (tag : CoreTag) where
    -- the home, and how many rows there are
    abbrev pub SettlesAs : Result (ℕ × ℕ) DirFault → DirectoryCall
    SettlesAs (Ok answer) a b =
        MetHome start tag row.pair answer.0 answer.1 a b ⊎ ((answer.0 ≡ row.volume) × RowAdded start tag row.pair row.volume answer.1 a b)
    SettlesAs (Err refusal.Frozen) a b = MetFrozenDir start tag a b
    SettlesAs (Err refusal.NoMemory) a b = RowWanted start tag row.pair row.volume a b
    SettlesAs (Err (refusal.Failed faults)) a b = RowFailed start tag row.pair row.volume faults a b
