use Rattle.std.proofs.Common.{◌≡◌, ◌++◌, flat_map}
use Rattle.hay_audit_steps.specs.Rooms as rooms
use Rattle.hay_audit.proofs.cuts.cut_all.Given as goal

abbrev pub invariant-loop-state : goal.invariant-loop-state
invariant-loop-state l =
    l.parts ++ flat_map (rooms.room_cut l.settings l.size l.volume l.replica) l.state-iterator.rest.items ≡ flat_map (rooms.room_cut l.settings l.size l.volume l.replica) l.fn.states
