use Rattle.std.proofs.Common.{◌≡◌, ℕ, ap, subst, ◌∙◌, arith}
use Rattle.hay_disk.specs.Shelf.{HeldArm, HeldDisk}
use Rattle.hay_mount.specs.Mounts.{InOrder, IsMountedDisk}
use Rattle.hay_mount.proofs.Giving.{arms_back}
use Rattle.hay_mount.proofs.mounted.mount.Goals as goal

pub returns-in-Ok-clause-disks : goal.returns-in-Ok-clause-disks
returns-in-Ok-clause-disks g c =
    let P : (ℕ → HeldDisk) → Type 0 =
    λ held. InOrder (λ slot disk. IsMountedDisk g.H.Disk.Disk.Tells g.H.Disk.Disk.files g.H.Disk.Disk.drawn g.H.Disk.Disk.fault_count g.H.Disk.Disk.fuse_count (held slot) disk)
    0 c.in-Ok.disks.items in
    subst P c.take_arms.ensures.slots c.in-Ok.ensures.disks

pub returns-in-Err-clause-arms_back : goal.returns-in-Err-clause-arms_back
returns-in-Err-clause-arms_back g c =
    let same : g.H.Shelf.arms c.take_disks.new.shelf ≡ g.H.Shelf.arms c.take_arms.new.shelf = c.take_disks.ensures.lanes in
    arms_back g.H.Arm.Arm.fault_count g.H.Arm.Arm.is_sure 8 c.in_ok-arms.arms.items (g.H.Shelf.arms c.args.shelf.now) (g.H.Shelf.arms c.take_arms.new.shelf) (g.H.Shelf.arms c.give_arms.new.shelf)
    c.requires.arms_in c.in_ok-arms.ensures.arms (λ lane high. c.take_arms.ensures.others lane (omega (arith, c.in_ok-arms.ensures.count)))
    c.give_arms.ensures.given (λ lane high. c.give_arms.ensures.others lane high ∙ ap (λ (held : ℕ → HeldArm). held lane) same)
