use Rattle.std.proofs.Common.{◌≡◌, ◌≤◌, drop, length}
use Rattle.hay_audit_steps.specs.Next as next
use Rattle.hay_audit.proofs.del.raise_ended.Given as goal

abbrev pub invariant-loop-left : goal.invariant-loop-left
invariant-loop-left l =
    (l.left ≤ length l.ended) × (l.state ≡ next.raise_ended l.settings l.before l.volume l.left (drop l.left l.ended) l.fn.state)

abbrev pub decreases-loop-left : goal.decreases-loop-left
decreases-loop-left l = l.left
