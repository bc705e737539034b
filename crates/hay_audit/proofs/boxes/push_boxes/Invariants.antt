use Rattle.std.proofs.Common.{◌≡◌, ◌++◌}
use Rattle.hay_audit.proofs.boxes.push_boxes.Given as goal

abbrev pub invariant-loop-state : goal.invariant-loop-state
invariant-loop-state l = l.out ++ l.state-iterator.rest.items ≡ l.fn.out ++ l.fn.states
