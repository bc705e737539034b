-- What stands behind the lock.
use Rattle.std.specs.Prelude.{◌≡◌, ℕ, List, [], ◌∷◌, map, filter, length, slice_get, Option, Some, None}
use Rattle.hay_front.specs.Entries.{LogEntry}
use Rattle.hay_front.specs.Fronts.{Witness, FrontState}
use Rattle.hay_thread_tests.specs.declared.board.Post.{Post}
use Rattle.hay_thread_tests.specs.declared.locked.Act.{Act}

abbrev pub post_of : Act → Post
post_of a = record { seat = a.tag.seat; counted = a.counted }

-- the act, if it was done
abbrev pub made : {A : Type 0} → Act → Option A → List Act
made act None = []
made act (Some done) = act ∷ []

-- its entry in the log
abbrev pub entry_of : Act → LogEntry Post
entry_of a = record { tag = a.tag; deed = post_of a }

-- the log of a history
abbrev pub log_of : List Act → List (LogEntry Post)
log_of acts = map entry_of (filter (λ a. a.counted) acts)

abbrev pub BoardFront : Type 0
BoardFront = FrontState (List ℕ) (List ℕ) Post (LogEntry Post)

-- of the front of this start, which began with an empty board, on which these acts were published and no others
pub record IsOf (start : Witness (List ℕ) (List ℕ) Post) (front : BoardFront) (posts : ℕ) (acts : List Act) : Type 0 where
  pub same_front : front.shown.front ≡ start.front
  pub base : front.shown.base ≡ Some ([], [])
  pub deeds : front.shown.deeds ≡ map post_of acts
  pub log : front.log ≡ log_of acts
  pub many : posts ≡ length acts

-- it has seen a board that began empty, with this post at this place
pub record IsPosted (seen : Witness (List ℕ) (List ℕ) Post) (place : ℕ) (post : Post) : Type 0 where
  pub base : seen.base ≡ Some ([], [])
  pub at : slice_get seen.deeds place ≡ Some post
