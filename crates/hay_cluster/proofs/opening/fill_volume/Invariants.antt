use Rattle.hay_cluster.proofs.OpeningFill.{Filling}
use Rattle.hay_cluster.proofs.opening.fill_volume.Given as goal

abbrev pub invariant-loop-replica : goal.invariant-loop-replica
invariant-loop-replica g l = Filling l._replica l.fn.volume l.volume l.fn.disks.items l.disks.items
