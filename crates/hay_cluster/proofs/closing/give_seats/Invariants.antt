use Rattle.std.proofs.Common.{◌≡◌, vec_len}
use Rattle.hay_mount.specs.Mounts.{IsGivenArm}
use Rattle.hay_mount.proofs.Giving.{Gives}
use Rattle.hay_cluster.proofs.closing.give_seats.Given as goal

abbrev pub invariant-loop-seat : goal.invariant-loop-seat
invariant-loop-seat g l = record {
  gives : Gives (IsGivenArm g.H.Arm.Arm.fault_count g.H.Arm.Arm.is_sure) l.fn.seats.items l.seats.items (g.H.Shelf.arms l.fn.shelf) (g.H.Shelf.arms l.shelf);
  others : g.H.Shelf.disks l.shelf ≡ g.H.Shelf.disks l.fn.shelf;
  counted : g.H.Shelf.fault_count l.shelf ≡ g.H.Shelf.fault_count l.fn.shelf;
}

abbrev pub decreases-loop-seat : goal.decreases-loop-seat
decreases-loop-seat g l = vec_len l.seats
