use Rattle.std.proofs.Common.{◌≡◌, ◌<◌, ℕ, false}
use Rattle.hay_map.specs.Places.{place_in}
use Rattle.hay_logical.specs.Notes.{is_live}
use Rattle.hay_logical.proofs.refusals.has_live.Given as goal

abbrev pub invariant-loop-j : goal.invariant-loop-j
invariant-loop-j g l = (i : ℕ) → i < l.j → is_live (place_in l.row i) ≡ false
