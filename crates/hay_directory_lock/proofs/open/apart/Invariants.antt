use Rattle.std.proofs.Common.{◌≡◌, ◌+◌, ◌≤◌, ◌++◌, map, vec_len, vec_capacity}
use Rattle.std.specs.Vec.Iter.{into_iter_items, into_iter_len}
use Rattle.hay_directory_lock.proofs.open.apart.Given as goal

abbrev pub invariant-loop-seat : goal.invariant-loop-seat
invariant-loop-seat g l = record {
  turns : l.turns.items ++ map (λ c. c.turn) (into_iter_items l.seat-iterator) ≡ map (λ c. c.turn) l.fn.seats.items;
  views : l.views.items ++ map (λ c. c.view) (into_iter_items l.seat-iterator) ≡ map (λ c. c.view) l.fn.seats.items;
  turn_room : vec_len l.turns + into_iter_len l.seat-iterator ≤ vec_capacity l.turns;
  view_room : vec_len l.views + into_iter_len l.seat-iterator ≤ vec_capacity l.views;
}
