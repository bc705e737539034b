use Rattle.std.proofs.Common.{◌≡◌, ◌+◌, ◌≤◌, ◌++◌, map, vec_len, vec_capacity}
use Rattle.std.specs.Vec.Iter.{into_iter_items, into_iter_len}
use Rattle.hay_directory_lock.proofs.open.joined.Given as goal

abbrev pub invariant-loop-turn : goal.invariant-loop-turn
invariant-loop-turn g l = record {
  turns : map (λ c. c.turn) l.seats.items ++ into_iter_items l.turn-iterator ≡ l.fn.turns.items;
  views : map (λ c. c.view) l.seats.items ++ into_iter_items l.views ≡ l.fn.views.items;
  same : into_iter_len l.turn-iterator ≡ into_iter_len l.views;
  room : vec_len l.seats + into_iter_len l.turn-iterator ≤ vec_capacity l.seats;
}
