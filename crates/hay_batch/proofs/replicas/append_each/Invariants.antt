use Rattle.hay_batch.proofs.Lists.{Went}
use Rattle.hay_batch.proofs.ReplicaLaws.{Appended}
use Rattle.hay_batch.proofs.replicas.append_each.Given as goal

abbrev pub invariant-loop-j : goal.invariant-loop-j
invariant-loop-j g l = Went (Appended g.D.Disk.Tells g.D.Disk.files g.D.Disk.fault_count g.D.Disk.fuse_count l.photos) l.j l.fn.replicas l.replicas
