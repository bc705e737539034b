use Rattle.std.proofs.Common.{◌≡◌, length, take}
use Rattle.hay_legal.specs.Known.{NoneFalls}
use Rattle.hay_audit.proofs.joins.none_falls.Given as goal

abbrev pub invariant-loop-i : goal.invariant-loop-i
invariant-loop-i l = NoneFalls (take l.i l.before) (take l.i l.after) × (length l.before ≡ length l.after)
