use Rattle.std.proofs.Common.{◌≡◌, length, take}
use Rattle.hay_audit.proofs.same.same_all.Given as goal

abbrev pub invariant-loop-i : goal.invariant-loop-i
invariant-loop-i g l = (take l.i l.items ≡ take l.i l.others) × (length l.items ≡ length l.others)
