-- The Directory's lock that lanes share, and their seats.
use Rattle.std.specs.Prelude.{◌≡◌, ℕ, Some}
use Rattle.hay_needle.specs.declared.settings.Settings.{Settings}
use Rattle.hay_meeting.specs.Acts.{Start}
use Rattle.hay_directory_lock.specs.Begun.{BegunAt}
use Rattle.hay_directory_lock.specs.Seats.{DirectorySeatState, IsSeated}
use Rattle.hay_directory_lock.specs.Standing.{StandsAt}
use Rattle.hay_locks.specs.declared.directory.SharedDirectory.{SharedDirectory}

-- The seat is of this lock and of this lane, for a store of these settings. The same stood where it was made as where the first one was.
pub record IsRowSeatOf {D P : Type 0} (shared : SharedDirectory D P) (settings : Settings) (lane : ℕ) (seat : DirectorySeatState D) : Type 0 where
  pub begun : BegunAt D
  pub is : ((shared.first).value.turn).start ≡ Some begun
  pub seated : IsSeated shared.lock begun lane seat
  pub settings_are : (shared.lock).settings ≡ settings

-- this stood of the Directory where the seat's lock was made
pub record RowsWereAt {D : Type 0} (faults fuses : D → ℕ) (seat : DirectorySeatState D) (start : Start) : Type 0 where
  pub begun : BegunAt D
  pub is : (seat.turn).start ≡ Some begun
  pub stands : StandsAt faults fuses begun.directory start.directory
