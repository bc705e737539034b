use Rattle.std.proofs.Common.{◌≡◌, ◌+◌, ◌≤◌, ◌++◌, map, vec_len, vec_capacity}
use Rattle.std.specs.Vec.Iter.{into_iter_items, into_iter_len}
use Rattle.hay_volume_lock.proofs.Opening.{Viewing, turn_of}
use Rattle.hay_volume_lock.proofs.lock.VolumeLock.close.Given as goal

abbrev pub invariant-loop-seat : goal.invariant-loop-seat
invariant-loop-seat g l = record {
  turns : l.turns.items ++ map turn_of (into_iter_items l.seat-iterator) ≡ map turn_of l.fn.seats.items;
  viewing : Viewing l.views.items (into_iter_items l.seat-iterator) l.fn.seats.items;
  turn_room : vec_len l.turns + into_iter_len l.seat-iterator ≤ vec_capacity l.turns;
  view_room : vec_len l.views + into_iter_len l.seat-iterator ≤ vec_capacity l.views;
}
