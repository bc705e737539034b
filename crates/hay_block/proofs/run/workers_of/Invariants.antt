use Rattle.std.proofs.Common.{◌≡◌, ◌+◌, ◌≤◌, ◌++◌, map, vec_len, vec_capacity}
use Rattle.std.specs.Vec.Iter.{into_iter_items, into_iter_len}
use Rattle.hay_block.specs.Workers.{at_locks, parts_of}
use Rattle.hay_block.proofs.run.workers_of.Given as goal

abbrev pub invariant-loop-lane : goal.invariant-loop-lane
invariant-loop-lane g l = record {
  lanes : map parts_of l.workers.items ++ map (at_locks l.shared) (into_iter_items l.lane-iterator) ≡ map (at_locks l.shared) l.fn.lanes.items;
  room : vec_len l.workers + into_iter_len l.lane-iterator ≤ vec_capacity l.workers;
}
