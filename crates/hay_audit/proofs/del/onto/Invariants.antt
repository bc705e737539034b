use Rattle.std.proofs.Common.{◌≡◌, ◌∷◌, take}
use Rattle.hay_audit.proofs.del.onto.Given as goal

abbrev pub invariant-loop-flag : goal.invariant-loop-flag
invariant-loop-flag l = l.all ≡ l.ended ∷ take l.flag-index l.rest
