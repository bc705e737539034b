use Rattle.std.proofs.Common.{◌≡◌, ◌++◌}
use Rattle.hay_audit_steps.specs.Next as next
use Rattle.hay_audit.proofs.Slots.{slots_from}
use Rattle.hay_audit.proofs.shows.slots_before.Given as goal

abbrev pub invariant-loop-i : goal.invariant-loop-i
invariant-loop-i l = next.slots_before l.settings l.volume l.start l.replica ≡ l.slots ++ slots_from l.settings l.volume l.start l.replica l.i
