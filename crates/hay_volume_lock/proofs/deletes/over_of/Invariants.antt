use Rattle.std.proofs.Common.{◌≡◌, length, take}
use Rattle.hay_volume_lock.specs.Deletes.{over_since}
use Rattle.hay_volume_lock.proofs.deletes.over_of.Given as goal

abbrev pub invariant-loop-replica : goal.invariant-loop-replica
invariant-loop-replica g l = record {
  taken : l.over.items ≡ take l.replica (over_since l.fn.runs.items l.fn.logical.replicas);
  count : length l.over.items ≡ l.replica;
}
