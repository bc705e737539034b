use Rattle.std.proofs.Common.{◌≤◌, ◌<◌, ◌-◌, ◌^◌, ℕ}
use Rattle.hay_shared_volume.specs.Making.{count_of}
use Rattle.hay_shared_volume.proofs.making.read_faults.Given as goal

abbrev pub invariant-loop-replica : goal.invariant-loop-replica
invariant-loop-replica g l = (j : ℕ) → j < l.replica → count_of g.D.Disk.fault_count l.volume j ≤ 2 ^ 64 - 1
