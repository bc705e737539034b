use Rattle.std.proofs.Common.{◌≡◌, vec_len}
use Rattle.hay_mount.specs.Mounts.{IsGivenArm}
use Rattle.hay_mount.proofs.Giving.{Gives}
use Rattle.hay_mount.proofs.arms.give_arms.Given as goal

abbrev pub invariant-loop-arm : goal.invariant-loop-arm
invariant-loop-arm g l = record {
  gives : Gives (IsGivenArm g.H.Arm.Arm.fault_count g.H.Arm.Arm.is_sure) l.fn.arms.items l.arms.items (g.H.Shelf.arms l.fn.shelf) (g.H.Shelf.arms l.shelf);
  others : g.H.Shelf.disks l.shelf ≡ g.H.Shelf.disks l.fn.shelf;
  counted : g.H.Shelf.fault_count l.shelf ≡ g.H.Shelf.fault_count l.fn.shelf;
}

abbrev pub decreases-loop-arm : goal.decreases-loop-arm
decreases-loop-arm g l = vec_len l.arms
