use Rattle.std.proofs.Common.{◌≡◌, take}
use Rattle.hay_needle.specs.Tables.{rows_of}
use Rattle.hay_core.proofs.needles.rows_of.Given as goal

abbrev pub invariant-loop-needle : goal.invariant-loop-needle
invariant-loop-needle l = l.rows ≡ rows_of (take l.needle-index l.needles)
