-- What the rule of a queue says at every moment.
use Rattle.std.specs.Prelude.{◌≡◌, ℕ, true, List, []}
use mathlib.Core.List.{IsPrefix}
use mathlib.Core.Option.{some}
use lib.ListN.{get_elem?}
use Rattle.hay_queue.specs.declared.message.Message.{Message}
use Rattle.hay_queue.specs.declared.rule.Knows.{Knows}
use Rattle.hay_queue.specs.Rule.{Kept}
use Rattle.hay_queue.specs.Streams.{stream_at, entries_of}

module _ {J : Type 0} (named : J → ℕ) where
  -- what was taken of a client is a beginning of what it has sent
  abbrev pub TakenBeginsSent : Type 0
  TakenBeginsSent =
      (items : List (Message J)) (views : List Knows) (worker client : ℕ) (v u : Knows) → Kept named items views → get_elem? views worker ≡ some v → get_elem? views client ≡ some u
      → v.takes ≡ true → u.sends ≡ true
      → IsPrefix (stream_at v.heard u.number).names u.sent.names

  -- where a client's end was taken, what was taken of it is all that it has sent, and the queue has nothing more of it
  abbrev pub EndsAreLast : Type 0
  EndsAreLast =
      (items : List (Message J)) (views : List Knows) (worker client : ℕ) (v u : Knows) → Kept named items views → get_elem? views worker ≡ some v → get_elem? views client ≡ some u
      → v.takes ≡ true → u.sends ≡ true
      → (stream_at v.heard u.number).ended ≡ true → (stream_at v.heard u.number ≡ u.sent) × (entries_of named u.number items ≡ [])
