use Rattle.std.proofs.Common.{◌≡◌, take}
use Rattle.hay_volume_lock.proofs.deletes.past_of.Given as goal

abbrev pub invariant-loop-is_over : goal.invariant-loop-is_over
invariant-loop-is_over l = l.past ≡ take l.is_over-index l.over
