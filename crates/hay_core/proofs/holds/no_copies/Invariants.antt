use Rattle.std.proofs.Common.{◌≡◌, map, take}
use Rattle.hay_core.specs.Sides.{no_copy}
use Rattle.hay_core.proofs.holds.no_copies.Given as goal

abbrev pub invariant-loop-side : goal.invariant-loop-side
invariant-loop-side l = l.next ≡ map no_copy (take l.side-index l.list)
