use Rattle.std.proofs.Common.{◌≡◌, ◌+◌, ◌≤◌, ◌++◌, map, vec_len, vec_capacity}
use Rattle.std.specs.Vec.Iter.{into_iter_items, into_iter_len}
use Rattle.hay_lanes.proofs.run.states_of.Given as goal

abbrev pub invariant-loop-worker : goal.invariant-loop-worker
invariant-loop-worker g l = record {
  workers : map (λ b. b.worker) l.states.items ++ into_iter_items l.worker-iterator ≡ l.fn.workers.items;
  rooms : map (λ b. b.outs) l.states.items ++ into_iter_items l.rooms ≡ l.fn.rooms.items;
  same : into_iter_len l.worker-iterator ≡ into_iter_len l.rooms;
  room : vec_len l.states + into_iter_len l.worker-iterator ≤ vec_capacity l.states;
}
