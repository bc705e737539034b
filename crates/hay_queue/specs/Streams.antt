-- Streams of jobs, and what of them stands in a queue.
use Rattle.std.specs.Prelude.{◌≡◌, ℕ, ◌+◌, ◌==◌, Bool, true, false, List, [], ◌∷◌, ◌++◌, length, Option, Some, None, slice_index_or, slice_get, slice_set}
use Rattle.hay_queue.specs.declared.message.Message.{Message}
use Rattle.hay_queue.specs.declared.rule.Stream.{Stream}

abbrev pub stream : List ℕ → Bool → Stream
stream names ended = record { names = names; ended = ended }

-- nothing was sent
abbrev pub empty : Stream
empty = stream [] false

-- the stream of a client, of a list with one for each
abbrev pub stream_at : List Stream → ℕ → Stream
stream_at streams client = slice_index_or streams client empty

-- the stream with one job more, or with its end
abbrev pub followed : Stream → Option ℕ → Stream
followed s (Some name) = stream (s.names ++ name ∷ []) s.ended
followed s None = stream s.names true

-- of a client the next job was taken, or its end. Behind its end there is nothing
pub record TakesNext (old new : List Stream) (client place : ℕ) (said : Option ℕ) : Type 0 where
  pub before : Stream
  pub stands : slice_get old client ≡ Some before
  pub going_on : before.ended ≡ false
  pub next : (name : ℕ) → said ≡ Some name → place ≡ length before.names
  pub after : new ≡ slice_set old client (followed before said)

-- an entry of a client: a job's place and name, or its end
abbrev pub Entry : Type 0
Entry = Option (ℕ × ℕ)

abbrev pub entry_at : ℕ → Option ℕ → Entry
entry_at place (Some name) = Some (place, name)
entry_at place None = None

-- the entries of a stream's jobs, whose places are counted from k
abbrev pub numbered : ℕ → List ℕ → List Entry
numbered k [] = []
numbered k (name ∷ names) = Some (k, name) ∷ numbered (k + 1) names

abbrev pub ending : Bool → List Entry
ending true = None ∷ []
ending false = []

-- the entries of a stream, in order
abbrev pub entries : Stream → List Entry
entries s = numbered 0 s.names ++ ending s.ended

abbrev pub with_entry : Bool → Entry → List Entry → List Entry
with_entry true e es = e ∷ es
with_entry false e es = es

module _ {J : Type 0} (named : J → ℕ) where
  abbrev pub name_of : Option J → Option ℕ
  name_of (Some job) = Some (named job)
  name_of None = None

  -- the entries of one client in a queue, in order
  abbrev pub entries_of : ℕ → List (Message J) → List Entry
  entries_of client [] = []
  entries_of client (m ∷ ms) = with_entry (m.from == client) (entry_at m.place (name_of m.job)) (entries_of client ms)
