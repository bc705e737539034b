use Rattle.std.proofs.Common.{◌≡◌, ◌+◌, ◌≤◌, ◌++◌, map, vec_len, vec_capacity}
use Rattle.std.specs.Vec.Iter.{into_iter_items, into_iter_len}
use Rattle.hay_block.proofs.run.lanes_of.Given as goal

abbrev pub invariant-loop-worker : goal.invariant-loop-worker
invariant-loop-worker g l = record {
  lanes : l.lanes.items ++ map (λ w. w.lane) (into_iter_items l.worker-iterator) ≡ map (λ w. w.lane) l.fn.workers.items;
  room : vec_len l.lanes + into_iter_len l.worker-iterator ≤ vec_capacity l.lanes;
}
