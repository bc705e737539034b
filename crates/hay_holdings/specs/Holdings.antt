-- What a lane's seats at one lock know behind a call.
use Rattle.std.specs.Prelude.{◌≡◌, List, [], ◌∷◌, ◌++◌, Option, Some, None}
use Rattle.std.specs.List.{AllByRecursion as Each}
use mathlib.Core.List.{IsPrefix}
use Rattle.hay_core.specs.declared.entry.CoreTag.{CoreTag}
use Rattle.hay_turn.specs.Seats.{SeatState}
use Rattle.hay_turn.specs.Slots.{acts_in}
use Rattle.hay_meeting.specs.Locks.{Doing, Lock, LockSight, entries}

-- what a lane's seat at the turn has seen and made, and what its seat of the view has been shown
abbrev pub sight_of : {B E X : Type 0} → SeatState B E → List X → LockSight E X
sight_of seat shown = record { seen = seat.seen; own = seat.own; shown = shown }

-- the doing of a holding that found these acts, if it acted
abbrev pub doings_in : {E : Type 0} → List E → Option E → List (Doing E)
doings_in held None = []
doings_in held (Some act) = record { held = held; act = act } ∷ []

module _ {S E X T : Type 0} (lock : Lock S E X T) (tag : CoreTag) where
  -- A holding for the line found these acts and made this one, if it made one. Behind it the seats know all of that.
  pub record Holding (held : List E) (made : Option E) (a b : LockSight E X) : Type 0 where
    pub from : IsPrefix a.seen held
    pub shown_from : IsPrefix a.shown (entries lock held)
    pub seen : b.seen ≡ held ++ acts_in made
    pub own : b.own ≡ a.own ++ acts_in made
    pub shown : b.shown ≡ entries lock (held ++ acts_in made)
    pub tags : Each (λ act. lock.tag act ≡ tag) (acts_in made)
    pub seats : Each (λ act. lock.seat act ≡ tag.lane) (acts_in made)

  -- One holding, of which this is so.
  pub record Called (IsSo : List E → Option E → Type 0) (a b : LockSight E X) : Type 0 where
    pub held : List E
    pub made : Option E
    pub holding : Holding held made a b
    pub is : IsSo held made

-- A look at the view without the lock, which may show more than the one before.
pub record Looked {E X : Type 0} (a b : LockSight E X) : Type 0 where
  pub seen : b.seen ≡ a.seen
  pub own : b.own ≡ a.own
  pub shown : IsPrefix a.shown b.shown
