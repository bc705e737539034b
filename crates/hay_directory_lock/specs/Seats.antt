-- What clauses see of the lock and of its seats.
use Rattle.std.specs.Prelude.{◌≡◌, ℕ, false, Some}
use Rattle.hay_needle.specs.declared.settings.Settings.{Settings}
use Rattle.hay_legal.specs.declared.known.HomeRow.{HomeRow}
use Rattle.hay_turn.specs.Seats.{SeatState, TurnId}
use Rattle.hay_meeting.specs.declared.act.DirAct.{DirAct}
use Rattle.hay_meeting.specs.Locks.{LockSight}
use Rattle.hay_holdings.specs.Holdings.{sight_of}
use Rattle.hay_views.specs.HomeLooks.{HomesShown}
use Rattle.hay_directory_lock.specs.Begun.{BegunAt, IsBegun}

-- which lock it is, how many seats it has, the settings, and how many rows stood at first
pub record LockState : Type 0 where
  pub turn : TurnId
  pub seats : ℕ
  pub settings : Settings
  pub stood : ℕ

-- a seat at the turn, and one of the view
pub record DirectorySeatState (D : Type 0) : Type 0 where
  pub turn : SeatState (BegunAt D) DirAct
  pub view : HomesShown

-- what the seat has seen and made, and what it was shown
abbrev pub sight : {D : Type 0} → DirectorySeatState D → LockSight DirAct HomeRow
sight seat = sight_of seat.turn (seat.view).deeds

-- The seat is of this lock and of this lane, where that stood at first, and it does not hold the Directory.
pub record IsSeated {D : Type 0} (lock : LockState) (begun : BegunAt D) (lane : ℕ) (seat : DirectorySeatState D) : Type 0 where
  pub turn_is : (seat.turn).turn ≡ lock.turn
  pub seats : (seat.turn).seats ≡ lock.seats
  pub number : (seat.turn).number ≡ lane
  pub start : (seat.turn).start ≡ Some begun
  pub rests : (seat.turn).holds ≡ false
  pub from : IsBegun begun
  pub settings : (begun.directory).settings ≡ lock.settings
  pub stood : (begun.directory).count ≡ lock.stood
  pub front : (seat.view).front ≡ (begun.view).front
  pub base : (seat.view).base ≡ (begun.view).base
