use Rattle.std.proofs.Common.{◌≡◌, ◌≤◌, drop, length}
use Rattle.hay_audit_steps.specs.Next as next
use Rattle.hay_audit.proofs.unreadable.all_caused.Given as goal

abbrev pub invariant-loop-left : goal.invariant-loop-left
invariant-loop-left l =
    (l.left ≤ length l.order) × (l.left ≤ length l.causes)
    × (l.state ≡ next.all_caused l.settings 0 l.volume (drop l.left l.order) (drop l.left l.causes) l.fn.state)

abbrev pub decreases-loop-left : goal.decreases-loop-left
decreases-loop-left l = l.left
