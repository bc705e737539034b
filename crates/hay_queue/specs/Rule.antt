-- The rule of a queue: of each client, what was taken and then what the queue holds is what the client sent.
use Rattle.std.specs.Prelude.{◌≡◌, ℕ, ◌<◌, ◌≤◌, true, false, List, [], ◌∷◌, ◌++◌, length, Some, slice_get}
use mathlib.Core.Option.{some}
use lib.ListN.{get_elem?}
use Rattle.hay_queue.specs.declared.message.Message.{Message}
use Rattle.hay_queue.specs.declared.rule.Knows.{Knows}
use Rattle.hay_queue.specs.declared.rule.Stream.{Stream}
use Rattle.hay_queue.specs.Streams.{empty, stream_at, followed, entries, name_of, entries_of, TakesNext}

-- the worker's pass, with what was taken of each client
abbrev pub worker_pass : List Stream → Knows
worker_pass heard = record { takes = true; heard = heard; sends = false; number = 0; sent = empty }

-- there is no client yet
abbrev pub first_pass : Knows
first_pass = worker_pass []

abbrev pub nobody : Knows
nobody = record { takes = false; heard = []; sends = false; number = 0; sent = empty }

abbrev pub one_client_more : Knows → Knows
one_client_more v = record v { heard = v.heard ++ empty ∷ [] }

-- the pass of the next client
abbrev pub new_client : Knows → Knows
new_client v = record { takes = false; heard = []; sends = true; number = length v.heard; sent = empty }

-- the worker's pass, which knows what a client sent
abbrev pub accounted : Knows → Knows → Knows
accounted v w = record v { sends = true; number = w.number; sent = w.sent }

-- where the client's end was taken, what was taken of it is what it sent
abbrev pub IsSettled : Knows → Type 0
IsSettled v = (s : Stream) → slice_get v.heard v.number ≡ Some s → s.ended ≡ true → s ≡ v.sent

-- what a pass knows is so: one pass takes, and each client has one pass
pub record Fits (worker : ℕ) (seat : ℕ → ℕ) (said : ℕ → Stream) (heard : List Stream) (pass : ℕ) (v : Knows) : Type 0 where
  pub takes : v.takes ≡ true → (pass ≡ worker) × (v.heard ≡ heard)
  pub sends : v.sends ≡ true → (pass ≡ seat v.number) × (v.sent ≡ said v.number) × (v.number < length heard)

module _ {J : Type 0} (named : J → ℕ) where
  pub record Kept (items : List (Message J)) (views : List Knows) : Type 0 where
    pub worker : ℕ
    pub seat : ℕ → ℕ
    pub said : ℕ → Stream
    pub heard : List Stream
    pub none_else : (client : ℕ) → length heard ≤ client → said client ≡ empty
    pub in_order : (client : ℕ) → entries (stream_at heard client) ++ entries_of named client items ≡ entries (said client)
    pub each_pass : (pass : ℕ) (v : Knows) → get_elem? views pass ≡ some v → Fits worker seat said heard pass v

  -- a send adds the job to what the client sent, or its end
  abbrev pub sent : Knows → Message J → Knows → Type 0
  sent v m w = w ≡ record v { sent = followed v.sent (name_of named m.job) }

  -- a take adds the message to what was taken
  abbrev pub took : Knows → Message J → Knows → Type 0
  took v m w = TakesNext v.heard w.heard m.from m.place (name_of named m.job) × (w ≡ record v { heard = w.heard })
