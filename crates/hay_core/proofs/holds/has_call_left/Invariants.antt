use Rattle.std.proofs.Common.{◌≡◌, drop}
use Rattle.std.specs.Prelude.{is_some}
use Rattle.hay_core.specs.Transitions.{first_call}
use Rattle.hay_core.proofs.holds.has_call_left.Given as goal

abbrev pub invariant-loop-side : goal.invariant-loop-side
invariant-loop-side l = is_some (first_call l.work l.list) ≡ is_some (first_call l.work (drop l.side-index l.list))
