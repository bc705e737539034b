-- The first number of a range that passes a test.
use Rattle.std.proofs.Common.{◌≡◌, ℕ, zero, suc, ◌+◌, ◌<◌, ◌≤◌, inl, inr, Bool, true, false, List, [], ◌∷◌, ◌++◌, map, Some, None, refl, sym, ap, ◌∙◌, arith, Option, subst}
use Rattle.std.specs.Prelude.{find, option_map, IfSome}
use Rattle.std.specs.List.{range_with_len}
use Rattle.std.proofs.lemmas.Bool.{cases_Bool, cases_order, cond-true, cond-false}

pub find-hit : (test : ℕ → Bool) (n at j : ℕ) → at ≤ j → j < at + n → test j ≡ true → ((i : ℕ) → at ≤ i → i < j → test i ≡ false) → find test (range_with_len at n) ≡ Some j
find-hit test zero at j low high is others = absurd (omega arith)
find-hit test (suc n) at j low high is others =
    elim (cases_order at j) [
      | inl here ↦ cond-true (test at) (Some at) (find test (range_with_len (at + 1) n)) (ap test here ∙ is) ∙ ap (λ i. Some i) here
      | inr (inl less) ↦ cond-false (test at) (Some at) (find test (range_with_len (at + 1) n)) (others at (omega arith) less)
          ∙ find-hit test n (at + 1) j (omega arith) (omega arith) is (λ i from below. others i (omega arith) below)
      | inr (inr more) ↦ absurd (omega arith)
    ]

pub find-none : (test : ℕ → Bool) (n at : ℕ) → ((i : ℕ) → at ≤ i → i < at + n → test i ≡ false) → find test (range_with_len at n) ≡ None
find-none test zero at others = refl
find-none test (suc n) at others =
    cond-false (test at) (Some at) (find test (range_with_len (at + 1) n)) (others at (omega arith) (omega arith))
    ∙ find-none test n (at + 1) (λ i from below. others i (omega arith) (omega arith))

-- of values by number
pub find-map : {X : Type 0} (test : X → Bool) (g : ℕ → X) (ns : List ℕ) → find test (map g ns) ≡ option_map g (find (λ i. test (g i)) ns)
find-map test g [] = refl
find-map test g (n ∷ ns) =
    elim (cases_Bool (test (g n))) [
      | inl passes ↦ cond-true (test (g n)) (Some (g n)) (find test (map g ns)) passes
          ∙ ap (option_map g) (sym (cond-true (test (g n)) (Some n) (find (λ i. test (g i)) ns) passes))
      | inr fails ↦ cond-false (test (g n)) (Some (g n)) (find test (map g ns)) fails ∙ find-map test g ns
          ∙ ap (option_map g) (sym (cond-false (test (g n)) (Some n) (find (λ i. test (g i)) ns) fails))
    ]

pub map_hit : {X : Type 0} (test : X → Bool) (g : ℕ → X) (n j : ℕ) → j < n → test (g j) ≡ true → ((i : ℕ) → i < j → test (g i) ≡ false) → find test (map g (range_with_len 0 n)) ≡ Some (g j)
map_hit test g n j within is others =
    find-map test g (range_with_len 0 n) ∙ ap (option_map g) (find-hit (λ i. test (g i)) n 0 j (omega arith) (omega arith) is (λ i from below. others i below))

pub map_none : {X : Type 0} (test : X → Bool) (g : ℕ → X) (n : ℕ) → ((i : ℕ) → i < n → test (g i) ≡ false) → find test (map g (range_with_len 0 n)) ≡ None
map_none test g n others =
    find-map test g (range_with_len 0 n) ∙ ap (option_map g) (find-none (λ i. test (g i)) n 0 (λ i from below. others i (omega arith)))

-- what is found is the value of one of the numbers
pub map_found : {X : Type 0} (test : X → Bool) (g : ℕ → X) (top at n : ℕ) → at + n ≤ top → IfSome (find test (map g (range_with_len at n))) (λ x. (j : ℕ) × (j < top) × (x ≡ g j))
map_found test g top at zero low = tt
map_found {X} test g top at (suc n) low =
    let P : X → Type 0 = λ x. (j : ℕ) × (j < top) × (x ≡ g j) in
    let rest = find test (map g (range_with_len (at + 1) n)) in
    elim (cases_Bool (test (g at))) [
      | inl passes ↦ let below : at < top = omega (arith, low) in subst (λ (o : Option X). IfSome o P) (sym (cond-true (test (g at)) (Some (g at)) rest passes)) (at, below, refl)
      | inr fails ↦ subst (λ (o : Option X). IfSome o P) (sym (cond-false (test (g at)) (Some (g at)) rest fails)) (map_found test g top (at + 1) n (omega (arith, low)))
    ]
