use Rattle.std.proofs.Common.{◌≡◌, ◌++◌, drop}
use Rattle.hay_core.specs.Transitions.{begun_sides}
use Rattle.hay_core.proofs.holds.begun_sides.Given as goal

abbrev pub invariant-loop-i : goal.invariant-loop-i
invariant-loop-i l = l.next ++ begun_sides l.work l.i (drop l.i l.list) ≡ begun_sides l.work 0 l.list
