use Rattle.std.proofs.Common.{◌≡◌, drop, length}
use Rattle.std.specs.Prelude.{map}
use Rattle.hay_legal.specs.Known as known
use Rattle.hay_audit_steps.specs.Next as next
use Rattle.hay_audit_steps.specs.Rooms as rooms
use Rattle.hay_audit.proofs.refusals.are_refused_so.Given as goal

abbrev pub invariant-loop-i : goal.invariant-loop-i
invariant-loop-i l =
    (next.refuse_so (map (known.refusal_of l.settings (rooms.lowest l.state) l.size) l.tries) l.refused
    ≡ next.refuse_so (map (known.refusal_of l.settings (rooms.lowest l.state) l.size) (drop l.i l.tries)) (drop l.i l.refused))
    × (length l.tries ≡ length l.refused)
