use Rattle.std.proofs.Common.{◌≡◌, ◌⊎◌, ◌≤◌, ◌<◌, ℕ, true, length, get_or, ◌+◌}
use Rattle.hay_memdisk.specs.Places.{no_place}
use Rattle.hay_memdisk.proofs.place.mark.Given as goal

abbrev pub invariant-loop-i : goal.invariant-loop-i
invariant-loop-i l = record {
  others : (k : ℕ) → (k < l.at) ⊎ (l.at + length l.bytes ≤ k) → get_or l.places k no_place ≡ get_or l.fn.places k no_place;
  loose : (k : ℕ) → l.at ≤ k → k < l.at + l.i → (get_or l.places k no_place).loose ≡ true;
}
