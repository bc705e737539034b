use Rattle.std.proofs.Common.{◌≡◌, ◌++◌, flat_map}
use Rattle.hay_legal.specs.Known as known
use Rattle.hay_audit_steps.specs.Rooms as rooms
use Rattle.hay_audit.proofs.rooms.refuse_at.Given as goal

abbrev pub invariant-loop-state : goal.invariant-loop-state
invariant-loop-state l =
    l.parts ++ flat_map (λ state. rooms.refused_at l.settings l.size state l.volume (known.closed l.settings state.base l.volume) l.refused) l.state-iterator.rest.items
    ≡ flat_map (λ state. rooms.refused_at l.settings l.size state l.volume (known.closed l.settings state.base l.volume) l.refused) l.fn.states
