use Rattle.std.proofs.Common.{◌≡◌, ◌≤◌, replicate, vec_capacity}
use Rattle.hay_front.proofs.front.make_seats.Given as goal

abbrev pub invariant-loop-i : goal.invariant-loop-i
invariant-loop-i g l = (l.pair ≡ l.fn.pair) × (l.made_seats.items ≡ replicate l.i l.all) × (l.seats ≤ vec_capacity l.made_seats)
