use Rattle.std.proofs.Common.{◌≡◌}
use Rattle.std.specs.Prelude.{replicate}
use Rattle.hay_audit_steps.specs.Slacks as slacks
use Rattle.hay_audit.proofs.boxes.no_slack_each.Given as goal

abbrev pub invariant-loop-i : goal.invariant-loop-i
invariant-loop-i l = l.row ≡ replicate l._i slacks.no_slack
