use Rattle.std.proofs.Common.{◌≡◌, ◌++◌, drop, take}
use Rattle.hay_audit.specs.Wants as wants
use Rattle.hay_audit.proofs.wants.first_word.Given as goal

abbrev pub invariant-loop-i : goal.invariant-loop-i
invariant-loop-i l = wants.before_space l.text ≡ take l.i l.text ++ wants.before_space (drop l.i l.text)
