use Rattle.std.proofs.Common.{◌≡◌, ◌≤◌, length}
use Rattle.std.specs.Vec.{vec_capacity}
use Rattle.hay_batch.specs.Filling.{AreEmpty}
use Rattle.hay_batch.proofs.filling.empty_volumes.Given as goal

abbrev pub invariant-loop-volume : goal.invariant-loop-volume
invariant-loop-volume g l = record {
  count : length l.volumes.items ≡ l._volume;
  room : (l.settings).volumes ≤ vec_capacity l.volumes;
  empty : AreEmpty (l.settings).replicas l.volumes.items;
}
