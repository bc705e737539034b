use Rattle.std.proofs.Common.{◌≡◌, drop, length}
use Rattle.hay_audit_steps.specs.Next as next
use Rattle.hay_audit.proofs.unreadable.may_pass.Given as goal

abbrev pub invariant-loop-i : goal.invariant-loop-i
invariant-loop-i l =
    (next.may_pass l.settings l.state 0 l.volume l.order l.causes ≡ next.may_pass l.settings l.state 0 l.volume (drop l.i l.order) (drop l.i l.causes))
    × (length l.order ≡ length l.causes)
