use Rattle.std.proofs.Common.{◌≡◌, ◌+◌, ◌≤◌, ◌++◌, All, IsSome, Some, map, vec_len, vec_capacity}
use Rattle.std.specs.Vec.Iter.{into_iter_items, into_iter_len}
use Rattle.hay_queue.specs.Benches.{kit_in, worker_in}
use Rattle.hay_queue.proofs.serve.parts_of.Given as goal

abbrev pub invariant-loop-slot : goal.invariant-loop-slot
invariant-loop-slot g l = record {
  all : All (λ slot. IsSome slot) (into_iter_items l.slot-iterator);
  workers : map (λ w. Some w) l.workers.items ++ map worker_in (into_iter_items l.slot-iterator) ≡ map worker_in l.fn.benches.items;
  kits : map (λ k. Some k) l.kits.items ++ map kit_in (into_iter_items l.slot-iterator) ≡ map kit_in l.fn.benches.items;
  room_for_workers : vec_len l.workers + into_iter_len l.slot-iterator ≤ vec_capacity l.workers;
  room_for_kits : vec_len l.kits + into_iter_len l.slot-iterator ≤ vec_capacity l.kits;
}
