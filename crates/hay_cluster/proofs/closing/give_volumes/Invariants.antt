use Rattle.std.proofs.Common.{◌≡◌, length, vec_len, ◌≤◌}
use Rattle.std.specs.List.{AllByRecursion, flat_map}
use Rattle.hay_needle.specs.declared.settings.TheConstants.{MAX_VOLUMES}
use Rattle.hay_mount.specs.Mounts.{IsGivenDisk}
use Rattle.hay_cluster.specs.Store.{volume_disks}
use Rattle.hay_cluster.proofs.ClosingSlots.{GivesFrom}
use Rattle.hay_cluster.proofs.closing.give_volumes.Given as goal

abbrev pub invariant-loop-volume : goal.invariant-loop-volume
invariant-loop-volume g l = record {
  gives : GivesFrom (IsGivenDisk g.H.Disk.Disk.Tells g.H.Disk.Disk.files g.H.Disk.Disk.drawn g.H.Disk.Disk.fault_count g.H.Disk.Disk.fuse_count) 1
      (flat_map volume_disks l.fn.volumes.items) (flat_map volume_disks l.volumes.items) (g.H.Shelf.disks l.fn.shelf) (g.H.Shelf.disks l.shelf);
  few : length l.volumes.items ≤ MAX_VOLUMES;
  all : AllByRecursion (λ volume. length (volume_disks volume) ≡ l.replicas) l.volumes.items;
  others : g.H.Shelf.arms l.shelf ≡ g.H.Shelf.arms l.fn.shelf;
  counted : g.H.Shelf.fault_count l.shelf ≡ g.H.Shelf.fault_count l.fn.shelf;
}

abbrev pub decreases-loop-volume : goal.decreases-loop-volume
decreases-loop-volume g l = vec_len l.volumes
