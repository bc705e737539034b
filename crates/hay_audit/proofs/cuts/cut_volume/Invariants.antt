use Rattle.std.proofs.Common.{◌≡◌, ◌++◌, flat_map}
use Rattle.hay_audit_steps.specs.Rooms as rooms
use Rattle.hay_audit.proofs.cuts.cut_volume.Given as goal

abbrev pub invariant-loop-state : goal.invariant-loop-state
invariant-loop-state l =
    l.parts ++ flat_map (λ state. rooms.volume_cuts l.settings l.size l.volume (rooms.replicas_at state l.volume) state) l.state-iterator.rest.items
    ≡ flat_map (λ state. rooms.volume_cuts l.settings l.size l.volume (rooms.replicas_at state l.volume) state) l.fn.states
