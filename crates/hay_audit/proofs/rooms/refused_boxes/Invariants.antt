use Rattle.std.proofs.Common.{◌≡◌, ◌++◌, flat_map}
use Rattle.hay_audit_steps.specs.Rooms as rooms
use Rattle.hay_audit.proofs.rooms.refused_boxes.Given as goal

abbrev pub invariant-loop-state : goal.invariant-loop-state
invariant-loop-state l =
    l.made ++ flat_map (rooms.refuse_box l.settings l.pair l.size l.refused l.rest) l.state-iterator.rest.items ≡ rooms.refused_boxes l.settings l.pair l.size l.refused l.rest l.fn.state
