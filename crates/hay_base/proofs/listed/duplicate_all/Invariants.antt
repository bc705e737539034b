use Rattle.std.proofs.Common.{◌≡◌, take}
use Rattle.hay_base.proofs.listed.duplicate_all.Given as goal

abbrev pub invariant-loop-item : goal.invariant-loop-item
invariant-loop-item g l = l.copy ≡ take l.item-index l.items
