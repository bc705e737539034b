use Rattle.std.proofs.Common.{◌≡◌, ◌++◌, drop}
use Rattle.std.specs.Prelude.{option_map, if◌then◌else◌}
use Rattle.hay_core.specs.Sides.{after_ok, after_failed}
use Rattle.hay_core.specs.Transitions.{at_first, first_call}
use Rattle.hay_core.proofs.HoldCode.{left, harm_or}
use Rattle.hay_core.proofs.holds.all_called.Given as goal

abbrev pub invariant-loop-side : goal.invariant-loop-side
invariant-loop-side l = record {
  sides_left : l.sides ++ left l.work (if l.made then after_ok l.work else after_failed l.work) l.harm (drop l.side-index l.list)
      ≡ at_first l.work (if l.made then after_ok l.work else after_failed l.work) l.list;
  harm_left : harm_or l.harm (option_map (λ call. call.harm) (first_call l.work (drop l.side-index l.list))) ≡ option_map (λ call. call.harm) (first_call l.work l.list);
}
