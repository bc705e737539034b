-- What a round of all lanes tells, lock by lock: the first lane meets each other one, one holding shows all views what stands, and each
-- lane meets the first.
use Rattle.std.specs.Prelude.{◌≡◌, ℕ, List, length, slice_get, Some}
use mathlib.Core.List.{IsPrefix}
use Rattle.hay_needle.specs.declared.settings.Settings.{Settings}
use Rattle.hay_turn.specs.Acts.{acts_of, AllBelow}
use Rattle.hay_meeting.specs.Acts.{AreSound, Happened, Start, row_lock, volume_lock}
use Rattle.hay_meeting.specs.Locks.{Lock, LockSight, entries}
use Rattle.hay_meeting.specs.Sights.{Sight}

-- Of a lane at a lock: the holding found h, in which is all that the lane had seen before; behind it the lane has seen all of h, its
-- own acts are those that they were, and its view was shown all.
pub record IsRoundOf {S E X T : Type 0} (lock : Lock S E X T) (lane : ℕ) (h : List E) (a b : LockSight E X) : Type 0 where
  pub gathered : IsPrefix a.seen h
  pub own_seen : acts_of lock.seat lane a.seen ≡ a.own
  pub shown_before : IsPrefix a.shown (entries lock h)
  pub told : IsPrefix h b.seen
  pub own_told : acts_of lock.seat lane b.seen ≡ b.own
  pub own : b.own ≡ a.own
  pub shown : IsPrefix (entries lock h) b.shown

pub record IsRound (settings : Settings) (start : Start) (lanes : ℕ) (old new : List Sight) (h : Happened) : Type 0 where
  pub many : length old ≡ lanes
  pub same : length new ≡ lanes
  pub sound : AreSound settings start h
  pub below : (v : ℕ) → AllBelow volume_lock.seat lanes (h.volumes v)
  pub rows_below : AllBelow row_lock.seat lanes h.directory
  pub volumes : (lane : ℕ) (a b : Sight) → slice_get old lane ≡ Some a → slice_get new lane ≡ Some b → (v : ℕ) → IsRoundOf volume_lock lane (h.volumes v) (a.volumes v) (b.volumes v)
  pub directory : (lane : ℕ) (a b : Sight) → slice_get old lane ≡ Some a → slice_get new lane ≡ Some b → IsRoundOf row_lock lane h.directory a.directory b.directory
