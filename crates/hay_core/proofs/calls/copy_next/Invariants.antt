use Rattle.std.proofs.Common.{◌≡◌, ◌-◌, drop}
use Rattle.hay_core.specs.Calls.{copy_next}
use Rattle.hay_core.proofs.CopyCode.{later}
use Rattle.hay_core.proofs.calls.copy_next.Given as goal

abbrev pub invariant-loop-i : goal.invariant-loop-i
invariant-loop-i l = later l.i (copy_next (l.budget - l.i) (drop l.i l.needles)) ≡ copy_next l.budget l.needles
