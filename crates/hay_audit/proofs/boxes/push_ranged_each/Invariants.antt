use Rattle.std.proofs.Common.{◌≡◌, ◌++◌}
use Rattle.std.specs.Prelude.{map}
use Rattle.hay_audit.specs.Ranging as ranging
use Rattle.hay_audit.proofs.boxes.push_ranged_each.Given as goal

abbrev pub invariant-loop-base : goal.invariant-loop-base
invariant-loop-base l = l.out ++ map (ranging.ranging l.low l.high) l.base-iterator.rest.items ≡ l.fn.out ++ map (ranging.ranging l.low l.high) l.fn.states.items
