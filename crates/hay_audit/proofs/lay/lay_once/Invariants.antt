use Rattle.std.proofs.Common.{◌≡◌, ◌++◌}
use Rattle.hay_audit_steps.specs.Laid as laid
use Rattle.hay_audit.proofs.lay.lay_once.Given as goal

abbrev pub invariant-loop-state : goal.invariant-loop-state
invariant-loop-state l =
    l.out ++ laid.laid_once l.before l.lane l.slot l.state-iterator.rest.items ≡ laid.laid_once l.before l.lane l.slot l.fn.states
