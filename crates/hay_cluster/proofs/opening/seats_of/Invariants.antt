use Rattle.std.proofs.Common.{◌≡◌, ◌+◌, ◌≤◌, ◌++◌, length, vec_len}
use Rattle.std.specs.Prelude.{reverse}
use Rattle.std.specs.Vec.{vec_capacity}
use Rattle.hay_cluster.proofs.opening.seats_of.Given as goal

abbrev pub invariant-loop-arm : goal.invariant-loop-arm
invariant-loop-arm g l = record {
  items : l.fn.arms.items ≡ l.arms.items ++ reverse l.seats.items;
  room : length l.arms.items + length l.seats.items ≤ vec_capacity l.arms;
  spare : length l.arms.items + length l.seats.items ≤ vec_capacity l.seats;
}

abbrev pub decreases-loop-arm : goal.decreases-loop-arm
decreases-loop-arm g l = vec_len l.arms
