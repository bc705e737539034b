use Rattle.std.proofs.Common.{◌≡◌, ◌+◌, ◌≤◌, ◌++◌, length, vec_len}
use Rattle.std.specs.Prelude.{reverse}
use Rattle.std.specs.Vec.{vec_capacity}
use Rattle.hay_cluster.proofs.opening.unseated.Given as goal

abbrev pub invariant-loop-seat : goal.invariant-loop-seat
invariant-loop-seat g l = record {
  items : l.fn.arms.items ++ reverse l.fn.seats.items ≡ l.arms.items ++ reverse l.seats.items;
  room : length l.arms.items + length l.seats.items ≤ vec_capacity l.arms;
}

abbrev pub decreases-loop-seat : goal.decreases-loop-seat
decreases-loop-seat g l = vec_len l.seats
