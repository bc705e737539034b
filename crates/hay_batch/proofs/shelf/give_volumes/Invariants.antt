use Rattle.std.proofs.Common.{◌≡◌, vec_len}
use Rattle.hay_batch.proofs.Closing.{GivesSome, VolumeGiven}
use Rattle.hay_batch.proofs.shelf.give_volumes.Given as goal

abbrev pub invariant-loop-volume : goal.invariant-loop-volume
invariant-loop-volume g l = record {
  gives : GivesSome (VolumeGiven g.H.Disk.Disk.Tells g.H.Disk.Disk.files g.H.Disk.Disk.drawn g.H.Disk.Disk.fault_count g.H.Disk.Disk.fuse_count l.replicas) 1 l.replicas
      l.fn.volumes.items l.volumes.items (g.H.Shelf.disks l.fn.shelf) (g.H.Shelf.disks l.shelf);
  others : g.H.Shelf.arms l.shelf ≡ g.H.Shelf.arms l.fn.shelf;
  counted : g.H.Shelf.fault_count l.shelf ≡ g.H.Shelf.fault_count l.fn.shelf;
}

abbrev pub decreases-loop-volume : goal.decreases-loop-volume
decreases-loop-volume g l = vec_len l.volumes
