use Rattle.std.proofs.Common.{◌≡◌, ℕ, ◌<◌, ◌≤◌, length, true, vec_capacity}
use Rattle.hay_mount.specs.Mounts.{InOrder, IsMountedArm, SameFrom}
use Rattle.hay_mount.proofs.arms.take_arms.Given as goal

abbrev pub invariant-loop-lane : goal.invariant-loop-lane
invariant-loop-lane g l = record {
  taken : InOrder (λ number arm. IsMountedArm g.H.Arm.Arm.fault_count g.H.Arm.Arm.is_sure (g.H.Shelf.arms l.fn.shelf number) arm) 0 l.arms.items;
  count : length l.arms.items ≡ l.lane;
  room : vec_capacity l.arms ≡ l.lanes;
  out : (number : ℕ) → number < l.lane → (g.H.Shelf.arms l.shelf number).is_out ≡ true;
  rest : SameFrom l.lane (g.H.Shelf.arms l.fn.shelf) (g.H.Shelf.arms l.shelf);
  others : g.H.Shelf.disks l.shelf ≡ g.H.Shelf.disks l.fn.shelf;
  counted : g.H.Shelf.fault_count l.fn.shelf ≤ g.H.Shelf.fault_count l.shelf;
}
