use Rattle.std.proofs.Common.{◌≡◌, ◌++◌, drop}
use Rattle.hay_core.specs.Transitions.{stopped_sides}
use Rattle.hay_core.proofs.readers.stopped_sides.Given as goal

abbrev pub invariant-loop-i : goal.invariant-loop-i
invariant-loop-i l = l.next ++ stopped_sides (drop l.i l.keep) (drop l.i l.rows) (drop l.i l.list) ≡ stopped_sides l.keep l.rows l.list
