use Rattle.std.proofs.Common.{◌≡◌, drop, flat_map}
use Rattle.hay_audit_steps.specs.Rooms as rooms
use Rattle.hay_audit.proofs.cuts.try_cuts.Given as goal

abbrev pub invariant-loop-volume : goal.invariant-loop-volume
invariant-loop-volume l = flat_map (rooms.try_cuts l.settings l.size (drop l.volume-index l.tries)) l.states ≡ rooms.try_cuts l.settings l.size l.tries l.fn.state
