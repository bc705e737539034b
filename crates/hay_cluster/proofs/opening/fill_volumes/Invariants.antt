use Rattle.hay_cluster.proofs.OpeningFill.{FillsFirst}
use Rattle.hay_cluster.proofs.opening.fill_volumes.Given as goal

abbrev pub invariant-loop-volume : goal.invariant-loop-volume
invariant-loop-volume g l = FillsFirst (l.settings).replicas l.volume-index l.fn.volumes l.volumes l.fn.disks.items l.disks.items
