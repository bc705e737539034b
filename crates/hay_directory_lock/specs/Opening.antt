-- What a lock is made of, and what is left when it ends.
use Rattle.std.specs.Prelude.{◌≡◌, ◌<◌, ℕ, List, [], length, slice_get, Some}
use mathlib.Core.List.{IsPrefix}
use Rattle.hay_disk.specs.Disk.{Files}
use Rattle.hay_front.specs.declared.front.Tag.{Tag}
use Rattle.hay_turn.specs.Acts.{acts_of, AllBelow}
use Rattle.hay_meeting.specs.declared.act.DirAct.{DirAct}
use Rattle.hay_meeting.specs.Acts.{row_lock}
use Rattle.hay_meeting.specs.Locks.{entries}
use Rattle.hay_directory.specs.State.{State}
use Rattle.hay_directory_lock.specs.Acts.{tags_of}
use Rattle.hay_directory_lock.specs.Begun.{BegunAt}
use Rattle.hay_directory_lock.specs.Seats.{DirectorySeatState, IsSeated, LockState, sight}
use Rattle.hay_directory_lock.specs.Standing.{DirectoryFor}

-- these are all seats of the lock, in the order of their lanes
pub record AreSeated {D : Type 0} (lock : LockState) (begun : BegunAt D) (seats : List (DirectorySeatState D)) : Type 0 where
  pub many : length seats ≡ lock.seats
  pub some : 0 < lock.seats
  pub each : (lane : ℕ) (seat : DirectorySeatState D) → slice_get seats lane ≡ Some seat → IsSeated lock begun lane seat

-- and none has seen, made or been shown anything
pub record AreNewSeats {D : Type 0} (lock : LockState) (begun : BegunAt D) (seats : List (DirectorySeatState D)) : Type 0 where
  pub seated : AreSeated lock begun seats
  pub blank : (lane : ℕ) (seat : DirectorySeatState D) → slice_get seats lane ≡ Some seat → sight seat ≡ record { seen = []; own = []; shown = [] }

-- The Directory is what one history left, with the tags of the rows that it added: it begins with what each seat has seen, and shows
-- what each was shown; each act in it is an own act of one of them, and each own act stands in it once.
pub record Closes {D : Type 0} (Tells : Type 0) (files : D → Files) (faults fuses : D → ℕ) (lock : LockState) (begun : BegunAt D)
    (seats : List (DirectorySeatState D)) (directory : State D) (tags : List Tag) : Type 0 where
  pub history : List DirAct
  pub own : (lane : ℕ) (seat : DirectorySeatState D) → slice_get seats lane ≡ Some seat → acts_of row_lock.seat lane history ≡ (sight seat).own
  pub below : AllBelow row_lock.seat (length seats) history
  pub seen : (lane : ℕ) (seat : DirectorySeatState D) → slice_get seats lane ≡ Some seat → IsPrefix (sight seat).seen history
  pub shown : (lane : ℕ) (seat : DirectorySeatState D) → slice_get seats lane ≡ Some seat → IsPrefix (sight seat).shown (entries row_lock history)
  pub stands : DirectoryFor Tells files faults fuses begun history directory
  pub tags_are : tags ≡ tags_of history
