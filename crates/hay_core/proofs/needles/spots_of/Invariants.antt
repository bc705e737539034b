use Rattle.std.proofs.Common.{◌≡◌, ◌++◌, drop}
use Rattle.hay_core.specs.Spots.{spots_of}
use Rattle.hay_core.proofs.needles.spots_of.Given as goal

abbrev pub invariant-loop-i : goal.invariant-loop-i
invariant-loop-i l = l.mapped ++ spots_of l.generation l.i (drop l.i l.needles) ≡ spots_of l.generation 0 l.needles
