use Rattle.std.proofs.Common.{◌≡◌, map, take}
use Rattle.hay_core.specs.Transitions.{ended_copy}
use Rattle.hay_core.proofs.holds.ended_copies.Given as goal

abbrev pub invariant-loop-side : goal.invariant-loop-side
invariant-loop-side l = l.next ≡ map ended_copy (take l.side-index l.list)
