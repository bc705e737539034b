use Rattle.std.proofs.Common.{◌≡◌, drop, flat_map, length}
use Rattle.hay_audit_steps.specs.Rooms as rooms
use Rattle.hay_audit.proofs.rooms.all_refused_at.Given as goal

abbrev pub invariant-loop-i : goal.invariant-loop-i
invariant-loop-i l =
    (flat_map (rooms.all_refused_at l.settings l.size (drop l.i l.tries) (drop l.i l.refused)) l.states ≡ rooms.all_refused_at l.settings l.size l.tries l.refused l.fn.state)
    × (length l.tries ≡ length l.refused)
