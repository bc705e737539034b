-- The numbers of a range, one behind another.
use Rattle.std.proofs.Common.{◌≡◌, ℕ, zero, suc, ◌+◌, ◌<◌, List, [], ◌∷◌, ◌++◌, refl, ap, ◌∙◌, arith}
use Rattle.std.specs.List.{range_with_len}

-- one number more
pub range-snoc : (at n : ℕ) → range_with_len at (suc n) ≡ range_with_len at n ++ (at + n) ∷ []
range-snoc at zero = let e : at ≡ at + 0 = omega arith in ap (λ i. i ∷ []) e
range-snoc at (suc n) =
    ap (λ xs. at ∷ xs) (range-snoc (at + 1) n) ∙ (let e : at + 1 + n ≡ at + suc n = omega arith in ap (λ i. at ∷ (range_with_len (at + 1) n ++ i ∷ [])) e)

-- a number of a range, and those behind it
pub range-at : (at total n : ℕ) → n < total → (rest : List ℕ) × (range_with_len at total ≡ range_with_len at n ++ (at + n) ∷ rest)
range-at at zero n below = absurd (omega (arith, below))
range-at at (suc total) zero below = (range_with_len (at + 1) total, let e : at ≡ at + 0 = omega arith in ap (λ i. i ∷ range_with_len (at + 1) total) e)
range-at at (suc total) (suc n) below =
    let more = range-at (at + 1) total n (omega (arith, below)) in
    (more.0, ap (λ xs. at ∷ xs) more.1 ∙ (let e : at + 1 + n ≡ at + suc n = omega arith in ap (λ i. at ∷ (range_with_len (at + 1) n ++ i ∷ more.0)) e))
