-- What one call at a lock tells: of a holding, and of a look at the view.
use Rattle.std.proofs.Common.{◌≡◌, ℕ, Bool, true, cond, List, [], ◌∷◌, ◌++◌, refl, sym, ap, subst, ◌∙◌, append-nil, Option, Some, None}
use Rattle.std.specs.List.{AllByRecursion as Each}
use mathlib.Core.List.{IsPrefix}
use Rattle.hay_core.specs.declared.entry.CoreTag.{CoreTag}
use Rattle.hay_history.specs.LaneSteps.{Did, RowDid}
use Rattle.hay_history.specs.LaneSteps.Did.{Tries}
use Rattle.hay_history.specs.Histories.{changes_it, changes_rows}
use Rattle.hay_turn.specs.Seats.{Holds, SeatState, after_free}
use Rattle.hay_turn.specs.Slots.{acts_in}
use Rattle.hay_turn.proofs.Prefixes.{prefix_self, prefix_trans}
use Rattle.hay_meeting.specs.declared.act.DirAct.{DirAct}
use Rattle.hay_meeting.specs.declared.act.VolumeAct.{VolumeAct}
use Rattle.hay_meeting.specs.Acts.{did_of, row_did_of}
use Rattle.hay_meeting.specs.Facts.{changed, changed_rows}
use Rattle.hay_meeting.specs.Locks.{Doing, Held, IsDoing, IsLaterAt, Lock, LockSight, Worked, entries}
use Rattle.hay_meeting.proofs.Phases.{only_saw}
use Rattle.hay_meeting.proofs.Replays.{entries_prefix}
use Rattle.hay_holdings.specs.Holdings.{Called, Holding, Looked, doings_in, sight_of}
use Rattle.hay_holdings.specs.Rows.{MadeNoRow}
use Rattle.hay_holdings.specs.Volumes.{MadeNothing}

-- ONE HOLDING

module _ {S E X T : Type 0} (lock : Lock S E X T) (tag : CoreTag) where
  -- one holding that acted
  pub record Acted (IsSo : List E → Option E → Type 0) (a b : LockSight E X) : Type 0 where
    pub held : List E
    pub act : E
    pub holding : Holding lock tag held (Some act) a b
    pub is : IsSo held (Some act)

module _ {S E X T : Type 0} (lock : Lock S E X T) {tag : CoreTag} where
  acted_by : {IsSo : List E → Option E → Type 0} {a b : LockSight E X} (held : List E) (made : Option E) → (IsSo held None → ⊥)
      → Holding lock tag held made a b → IsSo held made → Acted lock tag IsSo a b
  acted_by held None some x is = absurd (some is)
  acted_by held (Some act) some x is = record { held = held; act = act; holding = x; is = is }

  pub acted : {IsSo : List E → Option E → Type 0} {a b : LockSight E X} → ((held : List E) → IsSo held None → ⊥) → Called lock tag IsSo a b → Acted lock tag IsSo a b
  acted some x = acted_by x.held x.made (some x.held) x.holding x.is

  module _ {held : List E} {made : Option E} {a b : LockSight E X} (x : Holding lock tag held made a b) where
    held_seen : IsPrefix held b.seen
    held_seen = (acts_in made, sym x.seen)

    held_shown : IsPrefix (entries lock held) b.shown
    held_shown = subst (IsPrefix (entries lock held)) (sym x.shown) (entries_prefix lock held (held ++ acts_in made) (acts_in made, refl))

    pub holding_later : IsLaterAt a b
    holding_later = record {
      seen = prefix_trans a.seen held b.seen x.from held_seen;
      shown = prefix_trans a.shown (entries lock held) b.shown x.shown_from held_shown;
    }

    pub holding_held : Held lock a b held
    holding_held = record { from = x.from; shown_from = x.shown_from; to = held_seen; shown_to = held_shown }

  pub holding_doing : {held : List E} {act : E} {a b : LockSight E X} → Holding lock tag held (Some act) a b → IsDoing lock a b (record { held = held; act = act })
  holding_doing {held} {act} x = record {
    from = x.from;
    shown_from = x.shown_from;
    to = ([], append-nil (held ++ act ∷ []) ∙ sym x.seen);
    shown_to = ([], append-nil (entries lock (held ++ act ∷ [])) ∙ sym x.shown);
  }

  pub holding_worked : {a b : LockSight E X} (held : List E) (made : Option E) → Holding lock tag held made a b → Worked lock tag a b (doings_in held made)
  holding_worked {a} {b} held None x = only_saw lock (holding_later x) (x.own ∙ append-nil a.own)
  holding_worked held (Some act) x = record {
    later = holding_later x;
    own = x.own;
    rises = (x.from, tt);
    each = (holding_doing x, tt);
    tags = x.tags;
    seats = x.seats;
  }

  -- a seat held the turn and freed it, and then its lane was shown all that had been entered
  pub held_by_seat : {B Y : Type 0} {by : E → ℕ} {stands : B → List E → Y → Type 0} {old new : SeatState B E} {value : Y} {shown : List X} (made : Option E) → Holds by stands old new value
      → IsPrefix shown (entries lock new.seen) → Each (λ act. lock.tag act ≡ tag) (acts_in made) → Each (λ act. lock.seat act ≡ tag.lane) (acts_in made)
      → Holding lock tag new.seen made (sight_of old shown) (sight_of (after_free new (acts_in made)) (entries lock (new.seen ++ acts_in made)))
  held_by_seat {B} made holds shown_from tags seats = record {
    from = holds.seen;
    shown_from = shown_from;
    seen = refl;
    own = ap (λ (seat : SeatState B E). seat.own ++ acts_in made) holds.same;
    shown = refl;
    tags = tags;
    seats = seats;
  }

-- A LOOK

module _ {E X : Type 0} {a b : LockSight E X} (x : Looked a b) where
  pub looked_later : IsLaterAt a b
  looked_later = record { seen = subst (IsPrefix a.seen) (sym x.seen) (prefix_self a.seen); shown = x.shown }

  pub looked_worked : {S T : Type 0} (lock : Lock S E X T) {tag : CoreTag} → Worked lock tag a b []
  looked_worked lock = only_saw lock looked_later x.own

-- WHAT CHANGED SOMETHING

pub nothing_changed : (held : List VolumeAct) (made : Option VolumeAct) → MadeNothing made → changed (doings_in held made) ≡ []
nothing_changed held None none = refl
nothing_changed held (Some act) tries = ap (λ (did : Did). cond (changes_it did) (record { held = held; act = act } ∷ []) []) tries

pub only_tries : (held : List VolumeAct) (made : Option VolumeAct) → MadeNothing made → Each (λ doing. did_of (doing.act).did ≡ Tries) (doings_in held made)
only_tries held None none = tt
only_tries held (Some act) tries = (tries, tt)

pub one_changed : {did : Did} (doing : Doing VolumeAct) → did_of (doing.act).did ≡ did → changes_it did ≡ true → changed (doing ∷ []) ≡ doing ∷ []
one_changed doing is changes = ap (λ (b : Bool). cond b (doing ∷ []) []) (ap changes_it is ∙ changes)

pub no_row_changed : (held : List DirAct) (made : Option DirAct) → MadeNoRow made → changed_rows (doings_in held made) ≡ []
no_row_changed held None none = refl
no_row_changed held (Some act) tries = ap (λ (did : RowDid). cond (changes_rows did) (record { held = held; act = act } ∷ []) []) tries

pub one_row_changed : {did : RowDid} (doing : Doing DirAct) → row_did_of (doing.act).did ≡ did → changes_rows did ≡ true → changed_rows (doing ∷ []) ≡ doing ∷ []
one_row_changed doing is changes = ap (λ (b : Bool). cond b (doing ∷ []) []) (ap changes_rows is ∙ changes)
