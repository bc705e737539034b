use Rattle.std.proofs.Common.{◌≡◌, ◌++◌, drop}
use Rattle.hay_needle.specs.Tables.{flag_last}
use Rattle.hay_core.proofs.needles.flag_last.Given as goal

abbrev pub invariant-loop-i : goal.invariant-loop-i
invariant-loop-i l = l.flagged ++ flag_last l.pair (drop l.i l.needles) ≡ flag_last l.pair l.needles
