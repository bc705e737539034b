use Rattle.std.proofs.Common.{◌≡◌, ◌+◌, ◌≤◌, ◌++◌, All, vec_len, vec_capacity}
use Rattle.std.specs.Vec.Iter.{into_iter_items, into_iter_len}
use Rattle.hay_queue.proofs.serve.end_all.Given as goal

abbrev pub invariant-loop-client : goal.invariant-loop-client
invariant-loop-client g l = record {
  ended : l.ended.items ++ into_iter_items l.client-iterator ≡ l.fn.clients.items;
  own : All (λ c. c.desk ≡ l.desk) (into_iter_items l.client-iterator);
  room : vec_len l.ended + into_iter_len l.client-iterator ≤ vec_capacity l.ended;
}
