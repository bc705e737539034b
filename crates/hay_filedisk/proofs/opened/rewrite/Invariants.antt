use Rattle.std.proofs.Common.{◌-◌}
use Rattle.hay_filedisk.proofs.opened.rewrite.Given as goal

abbrev pub decreases-loop-at : goal.decreases-loop-at
decreases-loop-at l = l.to - l.at
