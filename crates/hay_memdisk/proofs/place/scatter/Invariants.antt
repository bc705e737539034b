use Rattle.std.proofs.Common.{◌≡◌, ℕ, false, get_or}
use Rattle.hay_memdisk.specs.Places.{no_place}
use Rattle.hay_memdisk.proofs.place.scatter.Given as goal

abbrev pub invariant-loop-i : goal.invariant-loop-i
invariant-loop-i l = (k : ℕ) → (get_or l.places k no_place).loose ≡ false → get_or l.bytes k 0 ≡ get_or l.fn.bytes k 0
