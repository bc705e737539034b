use Rattle.std.proofs.Common.{◌≡◌, drop}
use Rattle.std.specs.Vec.Iter.{into_iter_items}
use Rattle.hay_block.specs.Seats.{HasMore}
use Rattle.hay_block.proofs.Giving.{HaveBecome}
use Rattle.hay_block.proofs.seating.give_seats.Given as goal

abbrev pub invariant-loop-i : goal.invariant-loop-i
invariant-loop-i g l = record {
  have : HaveBecome HasMore l.fn.lanes l.fn.seats.items l.i l.lanes;
  left : into_iter_items l.seats ≡ drop l.i l.fn.seats.items;
}
