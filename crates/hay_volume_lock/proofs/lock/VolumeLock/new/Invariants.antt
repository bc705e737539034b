use Rattle.std.proofs.Common.{◌+◌, ◌≤◌, vec_len, vec_capacity}
use Rattle.std.specs.Vec.Iter.{into_iter_items, into_iter_len}
use Rattle.hay_volume_lock.proofs.Opening.{Seating}
use Rattle.hay_volume_lock.proofs.lock.VolumeLock.new.Given as goal

abbrev pub invariant-loop-own : goal.invariant-loop-own
invariant-loop-own g l = record {
  seating : Seating l.turn l.fn.logical l.fn.seats l.stood l.lanes.items (into_iter_items l.own-iterator) (into_iter_items l.views);
  room : vec_len l.lanes + into_iter_len l.own-iterator ≤ vec_capacity l.lanes;
}
