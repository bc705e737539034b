use Rattle.std.proofs.Common.{◌≡◌, map, take}
use Rattle.hay_core.specs.Transitions.{publish_pair}
use Rattle.hay_core.proofs.holds.published_sides.Given as goal

abbrev pub invariant-loop-side : goal.invariant-loop-side
invariant-loop-side l = l.next ≡ map (publish_pair l.work) (take l.side-index l.list)
