use Rattle.std.proofs.Common.{◌≡◌, ℕ, ◌<◌, ◌≤◌, length, true, vec_capacity}
use Rattle.hay_mount.specs.Mounts.{InOrder, IsMountedDisk, SameFrom}
use Rattle.hay_mount.proofs.disks.take_disks.Given as goal

abbrev pub invariant-loop-slot : goal.invariant-loop-slot
invariant-loop-slot g l = record {
  taken : InOrder (λ number disk. IsMountedDisk g.H.Disk.Disk.Tells g.H.Disk.Disk.files g.H.Disk.Disk.drawn g.H.Disk.Disk.fault_count g.H.Disk.Disk.fuse_count
      (g.H.Shelf.disks l.fn.shelf number) disk) 0 l.disks.items;
  count : length l.disks.items ≡ l.slot;
  room : vec_capacity l.disks ≡ l.slots;
  out : (number : ℕ) → number < l.slot → (g.H.Shelf.disks l.shelf number).is_out ≡ true;
  rest : SameFrom l.slot (g.H.Shelf.disks l.fn.shelf) (g.H.Shelf.disks l.shelf);
  others : g.H.Shelf.arms l.shelf ≡ g.H.Shelf.arms l.fn.shelf;
  counted : g.H.Shelf.fault_count l.fn.shelf ≤ g.H.Shelf.fault_count l.shelf;
}
