use Rattle.std.proofs.Common.{◌≡◌, drop}
use Rattle.hay_core.specs.Transitions.{first_passes, before_head}
use Rattle.hay_core.proofs.holds.first_is_before_head.Given as goal

abbrev pub invariant-loop-side : goal.invariant-loop-side
invariant-loop-side l = first_passes l.work before_head l.list ≡ first_passes l.work before_head (drop l.side-index l.list)
