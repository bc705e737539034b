use Rattle.std.proofs.Common.{◌≡◌, ◌≤◌, length, vec_capacity}
use Rattle.hay_block.specs.Seats.{HasMore}
use Rattle.hay_block.proofs.Giving.{HaveBecome}
use Rattle.hay_block.proofs.seating.take_seats.Given as goal

abbrev pub invariant-loop-i : goal.invariant-loop-i
invariant-loop-i g l = record {
  have : HaveBecome (λ seat old new. HasMore seat new old) l.fn.lanes l.seats.items l.i l.lanes;
  many : length l.seats.items ≡ l.i;
  room : length l.fn.lanes ≤ vec_capacity l.seats;
}
