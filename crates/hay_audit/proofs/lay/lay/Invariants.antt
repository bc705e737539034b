use Rattle.std.proofs.Common.{◌≡◌, ◌≤◌, drop, length}
use Rattle.hay_audit_steps.specs.Laid as laid
use Rattle.hay_audit.proofs.lay.lay.Given as goal

abbrev pub invariant-loop-left : goal.invariant-loop-left
invariant-loop-left l = (l.left ≤ length l.slots) × (l.states ≡ laid.laid l.before l.lane (drop l.left l.slots))

abbrev pub decreases-loop-left : goal.decreases-loop-left
decreases-loop-left l = l.left
