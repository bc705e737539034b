use Rattle.std.proofs.Common.{length}
use Rattle.hay_run.proofs.Drilling.{Lasts}
use Rattle.hay_run.proofs.drill.last_line.Given as goal

abbrev pub invariant-loop-behind : goal.invariant-loop-behind
invariant-loop-behind l = Lasts l.text l.last l.left

abbrev pub decreases-loop-behind : goal.decreases-loop-behind
decreases-loop-behind l = length l.left
