use Rattle.std.proofs.Common.{◌≡◌, vec_len}
use Rattle.hay_batch.proofs.Closing.{GivesSome, ReplicaGiven}
use Rattle.hay_batch.proofs.shelf.give_replicas.Given as goal

abbrev pub invariant-loop-replica : goal.invariant-loop-replica
invariant-loop-replica g l = record {
  gives : GivesSome (ReplicaGiven g.H.Disk.Disk.Tells g.H.Disk.Disk.files g.H.Disk.Disk.drawn g.H.Disk.Disk.fault_count g.H.Disk.Disk.fuse_count l.first) l.first 1
      l.fn.replicas.items l.replicas.items (g.H.Shelf.disks l.fn.shelf) (g.H.Shelf.disks l.shelf);
  others : g.H.Shelf.arms l.shelf ≡ g.H.Shelf.arms l.fn.shelf;
  counted : g.H.Shelf.fault_count l.shelf ≡ g.H.Shelf.fault_count l.fn.shelf;
}

abbrev pub decreases-loop-replica : goal.decreases-loop-replica
decreases-loop-replica g l = vec_len l.replicas
