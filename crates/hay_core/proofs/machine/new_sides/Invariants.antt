use Rattle.std.proofs.Common.{◌≡◌}
use Rattle.std.specs.Prelude.{replicate}
use Rattle.hay_core.specs.Transitions.{new_side}
use Rattle.hay_core.proofs.machine.new_sides.Given as goal

abbrev pub invariant-loop : goal.invariant-loop
invariant-loop l = l.sides ≡ replicate l.counter new_side
