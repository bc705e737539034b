use Rattle.std.proofs.Common.{◌≡◌, ◌+◌, length}
use Rattle.hay_mount.specs.Mounts.{IsGivenDisk}
use Rattle.hay_cluster.specs.Store.{volume_disks}
use Rattle.hay_cluster.proofs.ClosingSlots.{GivesFrom}
use Rattle.hay_cluster.proofs.closing.give_volume.Given as goal

abbrev pub invariant-loop-disk : goal.invariant-loop-disk
invariant-loop-disk g l = record {
  gives : GivesFrom (IsGivenDisk g.H.Disk.Disk.Tells g.H.Disk.Disk.files g.H.Disk.Disk.drawn g.H.Disk.Disk.fault_count g.H.Disk.Disk.fuse_count) l.first (volume_disks l.fn.volume)
      (volume_disks l.volume) (g.H.Shelf.disks l.fn.shelf) (g.H.Shelf.disks l.shelf);
  slot : l.slot ≡ l.first + length (volume_disks l.volume);
  others : g.H.Shelf.arms l.shelf ≡ g.H.Shelf.arms l.fn.shelf;
  counted : g.H.Shelf.fault_count l.shelf ≡ g.H.Shelf.fault_count l.fn.shelf;
}

abbrev pub decreases-loop-disk : goal.decreases-loop-disk
decreases-loop-disk g l = length (volume_disks l.volume)
