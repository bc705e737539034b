use Rattle.std.proofs.Common.{◌≡◌, List, length, ap, sym, subst, arith}
use Rattle.hay_mount.specs.Mounts.{InOrder, IsGivenArm, IsMountedArm}
use Rattle.hay_mount.proofs.Giving.{arms_back, disks_back}
use Rattle.hay_cluster.proofs.opening.take_parts.Goals as goal

pub returns-in-Ok-seats_of-clause-arms : goal.returns-in-Ok-seats_of-clause-arms
returns-in-Ok-seats_of-clause-arms g c =
    subst (λ (l : List g.row.H-Arm.Denot). InOrder (λ lane arm. IsMountedArm g.H.Arm.Arm.fault_count g.H.Arm.Arm.is_sure (g.H.Shelf.arms c.args.shelf.now lane) arm) 0 l)
    (sym c.in-Ok-seats_of.ensures.ok) c.in-Ok.ensures.arms

pub returns-in-Err-seats_of-clause-put_back : goal.returns-in-Err-seats_of-clause-put_back
returns-in-Err-seats_of-clause-put_back g c =
    let disks = c.in-Ok.mounted.disks.items in
    let many : length disks ≡ c.args.slots = c.in-Ok.ensures.disk_count in
    disks_back g.H.Disk.Disk.Tells g.H.Disk.Disk.files g.H.Disk.Disk.drawn g.H.Disk.Disk.fault_count g.H.Disk.Disk.fuse_count c.args.slots disks (g.H.Shelf.disks c.args.shelf.now)
    (g.H.Shelf.disks c.mount.new.shelf) (g.H.Shelf.disks c.unmount.new.shelf)
    c.requires.disks_in c.in-Ok.ensures.disks (λ slot high. c.in-Ok.ensures.other_slots slot (omega (arith, high, many))) c.unmount.ensures.disks c.unmount.ensures.other_slots

pub returns-in-Err-seats_of-clause-arms_back : goal.returns-in-Err-seats_of-clause-arms_back
returns-in-Err-seats_of-clause-arms_back g c =
    let arms = c.in-Ok.mounted.arms.items in
    let many : length arms ≡ 8 = c.in-Ok.ensures.arm_count in
    let same : c.in-Err-seats_of.arms.items ≡ arms = c.in-Err-seats_of.ensures.err in
    let long : length c.in-Err-seats_of.arms.items ≡ length arms = ap (λ (l : List g.row.H-Arm.Denot). length l) same in
    arms_back g.H.Arm.Arm.fault_count g.H.Arm.Arm.is_sure 8 arms (g.H.Shelf.arms c.args.shelf.now) (g.H.Shelf.arms c.mount.new.shelf) (g.H.Shelf.arms c.unmount.new.shelf)
    c.requires.arms_in c.in-Ok.ensures.arms (λ lane high. c.in-Ok.ensures.other_lanes lane (omega (arith, high, many)))
    (subst (λ (l : List g.row.H-Arm.Denot). InOrder (λ lane arm. IsGivenArm g.H.Arm.Arm.fault_count g.H.Arm.Arm.is_sure (g.H.Shelf.arms c.unmount.new.shelf lane) arm) 0 l) same c.unmount.ensures.arms)
    (λ lane high. c.unmount.ensures.other_lanes lane (omega (arith, high, long)))
