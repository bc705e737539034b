use Rattle.std.proofs.Common.{◌≡◌, ◌+◌, ◌≤◌, ◌++◌, Some, map, vec_len, vec_capacity}
use Rattle.std.specs.Vec.Iter.{into_iter_items, into_iter_len}
use Rattle.hay_queue.specs.Benches.{kit_in, worker_in}
use Rattle.hay_queue.proofs.serve.benches_of.Given as goal

abbrev pub invariant-loop-worker : goal.invariant-loop-worker
invariant-loop-worker g l = record {
  workers : map worker_in l.benches.items ++ map (λ w. Some w) (into_iter_items l.worker-iterator) ≡ map (λ w. Some w) l.fn.workers.items;
  kits : map kit_in l.benches.items ++ map (λ k. Some k) (into_iter_items l.kits) ≡ map (λ k. Some k) l.fn.kits.items;
  same : into_iter_len l.worker-iterator ≡ into_iter_len l.kits;
  room : vec_len l.benches + into_iter_len l.worker-iterator ≤ vec_capacity l.benches;
}
