use Rattle.std.proofs.Common.{◌≡◌, ◌+◌, ◌≤◌, ◌++◌, map, All, vec_len, vec_capacity}
use Rattle.std.specs.Vec.Iter.{into_iter_items, into_iter_len}
use Rattle.hay_thread_tests.proofs.session.workers_of.Given as goal

abbrev pub invariant-loop-seat : goal.invariant-loop-seat
invariant-loop-seat l = record {
  seats : map (λ c. c.seat) l.workers.items ++ into_iter_items l.seat-iterator ≡ l.fn.seats.items;
  views : map (λ c. c.view) l.workers.items ++ into_iter_items l.views ≡ l.fn.views.items;
  same : into_iter_len l.seat-iterator ≡ into_iter_len l.views;
  room : vec_len l.workers + into_iter_len l.seat-iterator ≤ vec_capacity l.workers;
  turn : All (λ worker. worker.turn.now ≡ l.turn) l.workers.items;
}
