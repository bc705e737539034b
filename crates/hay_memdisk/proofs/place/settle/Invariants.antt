use Rattle.std.proofs.Common.{◌≡◌, ◌⊎◌, ◌≤◌, ◌<◌, ℕ, false, get_or}
use Rattle.hay_memdisk.specs.Places.{no_place}
use Rattle.hay_memdisk.proofs.place.settle.Given as goal

abbrev pub invariant-loop-i : goal.invariant-loop-i
invariant-loop-i l = record {
  others : (k : ℕ) → (k < l.fn.written.from) ⊎ (l.fn.written.to ≤ k) → get_or l.places k no_place ≡ get_or l.fn.places k no_place;
  solid : (k : ℕ) → l.fn.written.from ≤ k → k < l.i → (get_or l.places k no_place).loose ≡ false;
}
