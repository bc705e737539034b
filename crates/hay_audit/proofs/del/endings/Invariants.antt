use Rattle.std.proofs.Common.{◌≡◌, ◌≤◌, drop, length}
use Rattle.hay_audit_steps.specs.Next as next
use Rattle.hay_audit.proofs.del.endings.Given as goal

abbrev pub invariant-loop-left : goal.invariant-loop-left
invariant-loop-left l =
    (l.left ≤ length l.replicas) × (l.choices ≡ next.endings l.settings l.state l.volume l.left (drop l.left l.replicas))

abbrev pub decreases-loop-left : goal.decreases-loop-left
decreases-loop-left l = l.left
