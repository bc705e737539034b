use Rattle.std.proofs.Common.{◌≡◌, map, take}
use Rattle.hay_core.specs.Sides.{ended}
use Rattle.hay_core.proofs.holds.ended_sides.Given as goal

abbrev pub invariant-loop-side : goal.invariant-loop-side
invariant-loop-side l = l.next ≡ map (ended l.work l.failed) (take l.side-index l.list)
