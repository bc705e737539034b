use Rattle.std.proofs.Common.{◌≡◌, length, take}
use Rattle.std.specs.Prelude.{map}
use Rattle.hay_physical.specs.OpenCopies.{goal_of}
use Rattle.hay_volume_lock.proofs.deletes.runs_of.Given as goal

abbrev pub invariant-loop-replica : goal.invariant-loop-replica
invariant-loop-replica g l = record {
  taken : l.runs.items ≡ take l.replica (map goal_of l.fn.logical.replicas);
  count : length l.runs.items ≡ l.replica;
}
