use Rattle.std.proofs.Common.{◌≡◌, vec_len}
use Rattle.hay_mount.specs.Mounts.{IsGivenDisk}
use Rattle.hay_mount.proofs.Giving.{Gives}
use Rattle.hay_mount.proofs.disks.give_disks.Given as goal

abbrev pub invariant-loop-disk : goal.invariant-loop-disk
invariant-loop-disk g l = record {
  gives : Gives (IsGivenDisk g.H.Disk.Disk.Tells g.H.Disk.Disk.files g.H.Disk.Disk.drawn g.H.Disk.Disk.fault_count g.H.Disk.Disk.fuse_count) l.fn.disks.items l.disks.items
      (g.H.Shelf.disks l.fn.shelf) (g.H.Shelf.disks l.shelf);
  others : g.H.Shelf.arms l.shelf ≡ g.H.Shelf.arms l.fn.shelf;
  counted : g.H.Shelf.fault_count l.shelf ≡ g.H.Shelf.fault_count l.fn.shelf;
}

abbrev pub decreases-loop-disk : goal.decreases-loop-disk
decreases-loop-disk g l = vec_len l.disks
