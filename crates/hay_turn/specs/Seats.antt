-- What clauses see of a seat.
use Rattle.std.specs.Prelude.{◌≡◌, ◌⊎◌, ℕ, ◌<◌, Bool, true, false, List, [], ◌∷◌, ◌++◌, length, slice_get, Option, Some}
use mathlib.Core.List.{IsPrefix}
use Rattle.atomic_table.specs.Table.{Me}
use Rattle.hay_turn.specs.Acts.{acts_of, AllOf, AllBelow}
use Rattle.hay_turn.specs.declared.rule.SeatView.{SeatView}
use Rattle.hay_turn.specs.declared.rule.Slot.{Slot}
use Rattle.hay_turn.specs.declared.rule.Slot.TheVariants.{Empty}
use Rattle.atomic_table.specs.Seated.{TableId}
use Rattle.hay_turn.specs.declared.rule.Stage.{Stage}
use Rattle.hay_turn.specs.declared.rule.Stage.TheVariants.{Idle, Waiting, Called, Holding, Given}

-- which lock it is
abbrev pub TurnId : Type 0
TurnId = TableId

-- the lock that it is of, its number and the number of seats, the start, all acts that it has seen, its own, and whether it holds
-- the turn
pub record SeatState (B E : Type 0) : Type 0 where
  pub turn : TurnId
  pub number : ℕ
  pub seats : ℕ
  pub start : Option B
  pub seen : List E
  pub own : List E
  pub holds : Bool

-- nothing was done by this seat, and it has seen nothing
abbrev pub new_seat : {B E : Type 0} → TurnId → Option B → ℕ → ℕ → SeatState B E
new_seat t b n i = record { turn = t; number = i; seats = n; start = b; seen = []; own = []; holds = false }

-- these are the first so many of n new seats
abbrev pub AreNew : {B E : Type 0} → TurnId → Option B → ℕ → List (SeatState B E) → Type 0
AreNew {B = B} {E = E} t b n seats = (i : ℕ) (s : SeatState B E) → slice_get seats i ≡ Some s → s ≡ new_seat t b n i

abbrev pub is_holding : Stage → Bool
is_holding Idle = false
is_holding Waiting = false
is_holding Called = false
is_holding Holding = true
is_holding Given = false

abbrev pub head_or : {A : Type 0} → A → List A → A
head_or a [] = a
head_or a (x ∷ xs) = x

abbrev pub seat_state : {T B E : Type 0} → TurnId → SeatView T B E → SeatState B E
seat_state t v = record { turn = t; number = v.first; seats = v.seats; start = v.start; seen = v.seen; own = head_or [] v.owns; holds = is_holding v.stage }

-- a seat has one number and a start, and it rests, or holds the turn with an empty slot and has told of no act
pub record IsSeat {T B E : Type 0} (me : Me (Slot T E) (SeatView T B E)) : Type 0 where
  pub own : (o : List E) × (me.0.owns ≡ o ∷ [])
  pub start : (b : B) × (me.0.start ≡ Some b)
  pub told_all : me.0.made ≡ []
  pub rests : ((me.0.stage ≡ Idle) × (me.1 ≡ [])) ⊎ ((me.0.stage ≡ Holding) × (me.1 ≡ (0, Empty) ∷ []))

-- what a hold gives: the value stands for the seat's start and for a history that begins with all that it had seen, and of which
-- its own acts are those of its number
pub record Holds {T B E : Type 0} (by : E → ℕ) (stands : B → List E → T → Type 0) (old new : SeatState B E) (x : T) : Type 0 where
  pub same : new ≡ record old { seen = new.seen; holds = true }
  pub stands_for : (b : B) → old.start ≡ Some b → stands b new.seen x
  pub seen : IsPrefix old.seen new.seen
  pub own : acts_of by old.number new.seen ≡ old.own
  pub below : AllBelow by old.seats new.seen

-- what a free asks: the acts are this seat's, and the value stands for the seat's start and for what was held and then these acts
pub record MayFree {T B E : Type 0} (by : E → ℕ) (stands : B → List E → T → Type 0) (old : SeatState B E) (x : T) (made : List E) : Type 0 where
  pub stands_for : (b : B) → old.start ≡ Some b → stands b (old.seen ++ made) x
  pub mine : AllOf by old.number made

abbrev pub after_free : {B E : Type 0} → SeatState B E → List E → SeatState B E
after_free old made = record old { seen = old.seen ++ made; own = old.own ++ made; holds = false }

-- a seat that meets another has then seen what both had seen, and all that the history so far has of its number is its own
pub record Meets {T B E : Type 0} (by : E → ℕ) (stands : B → List E → T → Type 0) (old other new : SeatState B E) : Type 0 where
  pub same : new ≡ record old { seen = new.seen }
  pub seen : IsPrefix old.seen new.seen
  pub told : IsPrefix other.seen new.seen
  pub own : acts_of by old.number new.seen ≡ old.own
  pub below : AllBelow by old.seats new.seen
  -- what was seen is a history that some value stands for
  pub stood : (b : B) → old.start ≡ Some b → (x : T) × stands b new.seen x

-- these are all seats of the turn, in the order of their numbers, and none holds it
abbrev pub AreAll : {B E : Type 0} → TurnId → List (SeatState B E) → Type 0
AreAll {B = B} {E = E} t seats = (0 < length seats) × ((i : ℕ) (s : SeatState B E) → slice_get seats i ≡ Some s → (s.turn ≡ t) × (s.number ≡ i) × (s.seats ≡ length seats) × (s.holds ≡ false))

-- the value stands for a history of which each act is an own act of one of the seats, and each own act stands in it once, in order
pub record Closes {T B E : Type 0} (by : E → ℕ) (stands : B → List E → T → Type 0) (seats : List (SeatState B E)) (x : T) : Type 0 where
  pub history : List E
  pub own : (i : ℕ) (s : SeatState B E) → slice_get seats i ≡ Some s → acts_of by i history ≡ s.own
  pub below : AllBelow by (length seats) history
  pub stands_for : (s : SeatState B E) → slice_get seats 0 ≡ Some s → (b : B) → s.start ≡ Some b → stands b history x
  -- it begins with what each seat has seen
  pub seen : (i : ℕ) (s : SeatState B E) → slice_get seats i ≡ Some s → IsPrefix s.seen history
