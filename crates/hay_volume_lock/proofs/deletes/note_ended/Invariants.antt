use Rattle.std.proofs.Common.{◌≡◌, ◌<◌, ◌≤◌, ℕ}
use Rattle.hay_volume_lock.specs.Acts.{counts}
use Rattle.hay_volume_lock.specs.Deletes.{noted}
use Rattle.hay_volume_lock.specs.Ended.{ended_at}
use Rattle.hay_volume_lock.proofs.deletes.note_ended.Given as goal

abbrev pub invariant-loop-replica : goal.invariant-loop-replica
invariant-loop-replica g l = record {
  done : (j lane : ℕ) → j < l.replica → lane < 8 → ended_at l.ended j lane ≡ noted l.fn.over l.fn.begun (counts g.D.Disk.fault_count l.fn.logical.replicas) l.initial.ended j lane;
  rest : (j lane : ℕ) → l.replica ≤ j → ended_at l.ended j lane ≡ ended_at l.initial.ended j lane;
}
