use Rattle.std.proofs.Common.{◌≡◌, drop}
use Rattle.hay_needle.specs.Tables.{lacks}
use Rattle.hay_core.proofs.needles.lacks.Given as goal

abbrev pub invariant-loop-needle : goal.invariant-loop-needle
invariant-loop-needle l = lacks l.pair l.needles ≡ lacks l.pair (drop l.needle-index l.needles)
