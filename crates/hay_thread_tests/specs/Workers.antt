-- What a worker does.
use Rattle.std.specs.Prelude.{◌≡◌, ℕ, false, List, [], ◌∷◌, ◌++◌, length, map, slice_get, Option, Some, IfSome}
use mathlib.Core.List.{IsPrefix}
use Rattle.hay_front.specs.Fronts.{Witness, IsBehind}
use Rattle.hay_turn.specs.Acts.{acts_of, AllBelow}
use Rattle.hay_turn.specs.Seats.{SeatState, TurnId}
use Rattle.hay_thread_tests.specs.declared.board.Post.{Post}
use Rattle.hay_thread_tests.specs.declared.worker.Line.{Line}
use Rattle.hay_thread_tests.specs.declared.worker.Posted.{Posted}
use Rattle.hay_thread_tests.specs.LockedBoards.{made, log_of}
use Rattle.hay_front.specs.declared.front.Tag.{Tag}
use Rattle.hay_thread_tests.specs.declared.locked.Act.{Act}

abbrev pub Shown : Type 0
Shown = Witness (List ℕ) (List ℕ) Post

abbrev pub Seated : Type 0
Seated = SeatState Shown Act

-- the act of a lane at a line
abbrev pub act_of : ℕ → Line → Act
act_of lane line = record { tag = record { seat = lane; lane = lane; line = line.line }; counted = line.counted }

-- all acts of a lane, in order
abbrev pub all_made : ℕ → List Line → List (Option Posted) → List Act
all_made lane [] outs = []
all_made lane (line ∷ lines) [] = []
all_made lane (line ∷ lines) (out ∷ outs) = made (act_of lane line) out ++ all_made lane lines outs

-- the seats are of this lock, of this lane and of the front behind the lock, and the turn is not held
pub record IsAt (lane : ℕ) (turn : TurnId) (seat : Seated) (view : Shown) : Type 0 where
  pub turn_is : seat.turn ≡ turn
  pub number : seat.number ≡ lane
  pub free : seat.holds ≡ false
  pub front : (start : Shown) × (seat.start ≡ Some start) × (view.front ≡ start.front)

-- the lane's own acts have the act of the line more, if it was done, and all else of its seat only grows; it has seen the act at
-- the place that it was told, and was shown its own number there
pub record GoesOn (lane : ℕ) (line : Line) (out : Option Posted) (old new : TurnId × Seated × Shown) : Type 0 where
  pub turn : new.0 ≡ old.0
  pub seat : new.1 ≡ record old.1 { seen = new.1.seen; own = old.1.own ++ made (act_of lane line) out }
  pub seen : IsPrefix old.1.seen new.1.seen
  pub view : IsBehind old.2 new.2
  pub placed : IfSome out (λ posted. slice_get new.1.seen posted.place ≡ Some (act_of lane line))
  pub shown : IfSome out (λ posted. posted.row ≡ Some lane)

-- each act of a lane that was done stands in the history at the place that the lane was told
abbrev pub ArePlaced : ℕ → List Line → List (Option Posted) → List Act → Type 0
ArePlaced lane lines outs acts = (k : ℕ) (line : Line) (posted : Posted) → slice_get lines k ≡ Some line → slice_get outs k ≡ Some (Some posted) → slice_get acts posted.place ≡ Some (act_of lane line)

-- there is a history that has of each lane the acts of its lines that were done, once and in their order, each at its place, and no
-- others, and the log has the tags of those that count
pub record IsRunOf (jobs : List (List Line)) (outs : List (List (Option Posted))) (log : List Tag) : Type 0 where
  pub acts : List Act
  pub lanes : length outs ≡ length jobs
  pub each : (lane : ℕ) (lines : List Line) (done : List (Option Posted)) → slice_get jobs lane ≡ Some lines → slice_get outs lane ≡ Some done
      → acts_of (λ act. act.tag.seat) lane acts ≡ all_made lane lines done
  pub placed : (lane : ℕ) (lines : List Line) (done : List (Option Posted)) → slice_get jobs lane ≡ Some lines → slice_get outs lane ≡ Some done
      → ArePlaced lane lines done acts
  pub others : AllBelow (λ act. act.tag.seat) (length jobs) acts
  pub log_is : log ≡ map (λ e. e.tag) (log_of acts)
