use Rattle.std.proofs.Common.{length}
use Rattle.hay_run.proofs.Drilling.{Left}
use Rattle.hay_run.proofs.drill.count_lines.Given as goal

abbrev pub invariant-loop-line : goal.invariant-loop-line
invariant-loop-line l = Left l.text l.left l.tally

abbrev pub decreases-loop-line : goal.decreases-loop-line
decreases-loop-line l = length l.left
