use Rattle.std.proofs.Common.{ℕ, sym, subst}
use Rattle.hay_disk.specs.Shelf.{HeldDisk}
use Rattle.hay_mount.specs.Mounts.{InOrder, IsGivenDisk}
use Rattle.hay_mount.proofs.mounted.unmount.Goals as goal

pub returns-clause-disks : goal.returns-clause-disks
returns-clause-disks g c =
    let P : (ℕ → HeldDisk) → Type 0 =
    λ held. InOrder (λ slot disk. IsGivenDisk g.H.Disk.Disk.Tells g.H.Disk.Disk.files g.H.Disk.Disk.drawn g.H.Disk.Disk.fault_count g.H.Disk.Disk.fuse_count (held slot) disk) 0
    c.args.mounted.disks.items in
    subst P (sym c.give_arms.ensures.slots) c.give_disks.ensures.given
