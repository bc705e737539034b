use Rattle.std.proofs.Common.{◌≡◌, ◌+◌, ◌-◌, ◌≤◌, drop, length, true}
use Rattle.std.specs.Prelude.{◌⊎◌}
use Rattle.hay_audit.proofs.Wanting.{WantingSoFar}
use Rattle.hay_audit.proofs.wants.wanting.Given as goal

abbrev pub invariant-loop-at : goal.invariant-loop-at
invariant-loop-at l = WantingSoFar l.transcript l.at l.lines

abbrev pub decreases-loop-at : goal.decreases-loop-at
decreases-loop-at l = length l.transcript + 1 - l.at
