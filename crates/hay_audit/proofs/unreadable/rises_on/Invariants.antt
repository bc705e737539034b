use Rattle.std.proofs.Common.{◌≡◌, drop}
use Rattle.hay_audit_steps.specs.Next as next
use Rattle.hay_audit.proofs.unreadable.rises_on.Given as goal

abbrev pub invariant-loop-passed : goal.invariant-loop-passed
invariant-loop-passed l = next.rises_on l.cause l.causes ≡ next.rises_on l.cause (drop l.passed-index l.causes)
