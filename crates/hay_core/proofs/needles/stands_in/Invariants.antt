use Rattle.std.proofs.Common.{◌≡◌, drop}
use Rattle.hay_needle.specs.declared.needle.Outcome.{Outcome}
use Rattle.hay_needle.specs.Tables.{look_after, look, rows_of}
use Rattle.hay_core.specs.Sides.{is_photo}
use Rattle.hay_core.proofs.needles.stands_in.Given as goal

abbrev pub invariant-loop-needle : goal.invariant-loop-needle
invariant-loop-needle l = (o : Outcome) × (l.found ≡ is_photo o) × (look_after (rows_of (drop l.needle-index l.needles)) l.pair o ≡ look (rows_of l.needles) l.pair)
