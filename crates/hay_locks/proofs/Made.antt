-- The Directory's lock that was made for a block, and its seats.
use Rattle.std.proofs.Common.{◌≡◌, ℕ, ◌<◌, List, sym, subst, ◌∙◌, Some, slice_get}
use Rattle.hay_needle.specs.declared.settings.Settings.{Settings}
use Rattle.hay_disk.specs.Disk.{Files}
use Rattle.hay_history.specs.LaneSteps.{RowsStanding}
use Rattle.hay_directory.specs.State.{State}
use Rattle.hay_directory_lock.specs.Begun.{BegunAt}
use Rattle.hay_directory_lock.specs.Opening.{AreNewSeats}
use Rattle.hay_directory_lock.specs.Seats.{DirectorySeatState, sight}
use Rattle.hay_directory_lock.specs.Standing.{StandsAt, standing_of}
use Rattle.hay_directory_lock.proofs.Knowing.{stands_at}
use Rattle.hay_shared_volume.specs.Making.{AreSeated, AreUnseen}
use Rattle.hay_block.specs.Making.{AreAtRows}
use Rattle.hay_locks.specs.Directories.{IsRowSeatOf, RowsWereAt}
use Rattle.hay_locks.specs.Making.{DirectoryStands, IsDirectoryOf, IsMadeOfRows, rows_count_of}
use Rattle.hay_locks.specs.declared.directory.SharedDirectory.{SharedDirectory}

module _ {D P : Type 0} (shared : SharedDirectory D P) (directory : State D) (begun : BegunAt D) (own : begun.directory ≡ directory) (seats : List (DirectorySeatState D))
    (new : AreNewSeats shared.lock begun seats) (first : slice_get seats 0 ≡ Some (shared.first).value) where
  first_begun : ((shared.first).value.turn).start ≡ Some begun
  first_begun = ((new.seated).each 0 (shared.first).value first).start

  pub is_made_of_rows : (settings : Settings) (room lanes : ℕ) → (shared.lock).seats ≡ lanes → room ≡ lanes → 0 < lanes → IsDirectoryOf directory settings
      → IsMadeOfRows shared room directory settings lanes
  is_made_of_rows settings room lanes many room_is some of = record {
    of = of;
    some = some;
    room_is = room_is;
    seats = many;
    begun = begun;
    is = first_begun;
    directory_is = own;
  }

  pub are_seated_rows : (settings : Settings) (lanes : ℕ) → (shared.lock).settings ≡ settings → (shared.lock).seats ≡ lanes → AreSeated IsRowSeatOf shared settings lanes seats
  are_seated_rows settings lanes same many = record {
    many = (new.seated).many ∙ many;
    each = λ lane seat at. record { begun = begun; is = first_begun; seated = (new.seated).each lane seat at; settings_are = same };
  }

  pub are_unseen_rows : AreUnseen (sight {D = D}) seats
  are_unseen_rows = record { each = new.blank }

  pub are_at_rows : (Tells : Type 0) (files : D → Files) (faults fuses : D → ℕ) → AreAtRows (RowsWereAt faults fuses) (DirectoryStands Tells files) (rows_count_of faults)
      (rows_count_of fuses) directory seats
  are_at_rows Tells files faults fuses lane seat at known drained stands start same =
      let stood : StandsAt faults fuses directory (standing_of faults fuses directory known drained) = stands_at files faults fuses directory known drained stands.stands in record {
        begun = begun;
        is = ((new.seated).each lane seat at).start;
        stands = subst (λ (d : State D). StandsAt faults fuses d start.directory) (sym own) (subst (λ (s : RowsStanding). StandsAt faults fuses directory s) (sym same) stood);
      }
