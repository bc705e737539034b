use Rattle.std.proofs.Common.{◌≡◌, drop}
use Rattle.hay_audit_steps.specs.Next as next
use Rattle.hay_audit.proofs.unreadable.arms_rise.Given as goal

abbrev pub invariant-loop-i : goal.invariant-loop-i
invariant-loop-i l = next.arms_rise l.causes ≡ next.arms_rise (drop l.i l.causes)
