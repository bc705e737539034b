use Rattle.std.proofs.Common.{◌≡◌, length}
use Rattle.hay_audit_steps.specs.Rooms as rooms
use Rattle.hay_audit.proofs.Cutting.{cuts_from}
use Rattle.hay_audit.proofs.cuts.volume_cuts.Given as goal

abbrev pub invariant-loop-j : goal.invariant-loop-j
invariant-loop-j l =
    (cuts_from l.settings l.size l.volume l.j l.count l.states ≡ rooms.volume_cuts l.settings l.size l.volume (rooms.replicas_at l.fn.state l.volume) l.fn.state)
