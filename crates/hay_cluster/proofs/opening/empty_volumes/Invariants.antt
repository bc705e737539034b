use Rattle.std.proofs.Common.{◌≡◌, ◌≤◌, length}
use Rattle.std.specs.Vec.{vec_capacity}
use Rattle.hay_mount.specs.Mounts.{InOrder}
use Rattle.hay_cluster.specs.Opening.{IsEmptyVolume}
use Rattle.hay_cluster.proofs.opening.empty_volumes.Given as goal

abbrev pub invariant-loop-number : goal.invariant-loop-number
invariant-loop-number g l = record {
  count : length l.volumes.items ≡ l.number;
  room : (l.settings).volumes ≤ vec_capacity l.volumes;
  empty : InOrder (IsEmptyVolume l.settings) 0 l.volumes.items;
}
