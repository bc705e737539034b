-- The pass over the sides that opens one of them.
use Rattle.std.proofs.Common.{◌≡◌, ℕ, zero, suc, ◌+◌, ◌<◌, List, [], ◌∷◌, true, false, refl, ap, ◌∙◌, arith}
use Rattle.std.specs.Prelude.{nat_eq, if◌then◌else◌}
use Rattle.std.proofs.lemmas.Bool.{cond-true, cond-false, eq-eqb, eqb-true, false_from_ne_true}
use Rattle.hay_core.specs.declared.machine.Side.{Side}
use Rattle.hay_core.specs.Sides.{opened}
use Rattle.hay_core.specs.Transitions.{at_side}

-- the sides, the first of which has the number i, once that of number j is opened
abbrev pub from_here : ℕ → ℕ → List Side → List Side
from_here j i [] = []
from_here j i (s ∷ sides) = (if nat_eq i j then opened s else s) ∷ from_here j (i + 1) sides

apart : (i j : ℕ) → (i ≡ j → ⊥) → nat_eq i j ≡ false
apart i j h = false_from_ne_true (nat_eq i j) (λ t. h (eqb-true i j t))

passed : (j i : ℕ) (sides : List Side) → j < i → from_here j i sides ≡ sides
passed j i [] h = refl
passed j i (s ∷ sides) h =
    let other : nat_eq i j ≡ false = apart i j (λ e. omega (arith, e, h)) in
    ap (λ (t : Side). t ∷ from_here j (i + 1) sides) (cond-false (nat_eq i j) (opened s) s other) ∙ ap (λ (ts : List Side). s ∷ ts) (passed j (i + 1) sides (omega (arith, h)))

from_number : (k i j : ℕ) (sides : List Side) → j ≡ i + k → from_here j i sides ≡ at_side k opened sides
from_number k i j [] e = refl
from_number zero i j (s ∷ sides) e =
    let this : nat_eq i j ≡ true = eq-eqb i j (omega (arith, e)) in
    ap (λ (t : Side). t ∷ from_here j (i + 1) sides) (cond-true (nat_eq i j) (opened s) s this) ∙ ap (λ (ts : List Side). opened s ∷ ts) (passed j (i + 1) sides (omega (arith, e)))
from_number (suc k) i j (s ∷ sides) e =
    let other : nat_eq i j ≡ false = apart i j (λ same. omega (arith, e, same)) in
    ap (λ (t : Side). t ∷ from_here j (i + 1) sides) (cond-false (nat_eq i j) (opened s) s other) ∙ ap (λ (ts : List Side). s ∷ ts) (from_number k (i + 1) j sides (omega (arith, e)))

pub from_first : (j : ℕ) (sides : List Side) → from_here j 0 sides ≡ at_side j opened sides
from_first j sides = from_number j 0 j sides (omega arith)
