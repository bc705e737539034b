use Rattle.std.proofs.Common.{◌≤◌}
use Rattle.std.specs.Prelude.{reverse}
use Rattle.std.specs.Vec.{vec_capacity}
use Rattle.hay_batch.proofs.FillingLaws.{Filling}
use Rattle.hay_batch.proofs.filling.fill_volume.Given as goal

abbrev pub invariant-loop-replica : goal.invariant-loop-replica
invariant-loop-replica g l = record {
  filling : Filling l._replica (reverse l.fn.disks.items) l.disks.items (reverse l.fn.files.items) l.files.items l.volume;
  room : l.replicas ≤ vec_capacity l.volume.replicas;
}
