use Rattle.std.proofs.Common.{◌≡◌, ◌++◌}
use Rattle.std.specs.Prelude.{map}
use Rattle.hay_audit.specs.Candidates.{placed}
use Rattle.hay_audit.proofs.judge.push_all.Given as goal

abbrev pub invariant-loop-state : goal.invariant-loop-state
invariant-loop-state l = l.out ++ map (placed l.at) l.state-iterator.rest.items ≡ l.fn.out ++ map (placed l.at) l.fn.states
