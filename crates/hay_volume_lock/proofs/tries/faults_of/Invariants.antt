use Rattle.std.proofs.Common.{◌≡◌, length, take}
use Rattle.hay_volume_lock.specs.Acts.{counts}
use Rattle.hay_volume_lock.proofs.tries.faults_of.Given as goal

abbrev pub invariant-loop-replica : goal.invariant-loop-replica
invariant-loop-replica g l = record {
  taken : l.faults.items ≡ take l.replica (counts g.D.Disk.fault_count l.fn.logical.replicas);
  count : length l.faults.items ≡ l.replica;
}
