-- What is copied where nothing changes meanwhile.
use Rattle.std.proofs.Common.{◌≡◌, ◌≤◌, ◌+◌, ℕ, zero, suc, Bool, true, false, cond, List, [], ◌∷◌, ◌++◌, length, drop, refl, ap, ◌∙◌, arith}
use Rattle.hay_needle.specs.declared.needle.Needle.{Needle}
use Rattle.hay_needle.specs.Tables.{is_live, live_needles}
use Rattle.hay_compact.specs.Copying.{live_among}

by_test : (b : Bool) (x : Needle) (xs ys : List Needle) → cond b (x ∷ (xs ++ ys)) (xs ++ ys) ≡ cond b (x ∷ xs) xs ++ ys
by_test true x xs ys = refl
by_test false x xs ys = refl

-- one needle more
more_among : (n : ℕ) (needles : List Needle) (needle : Needle) (behind : List Needle) → drop n needles ≡ needle ∷ behind
    → live_among (suc n) needles ≡ live_among n needles ++ cond (is_live needle behind) (needle ∷ []) []
more_among zero [] needle behind is = absurd cc
more_among (suc n) [] needle behind is = absurd cc
more_among zero (x ∷ needles) needle behind is =
    let first : x ≡ needle = cc in
    let rest : needles ≡ behind = cc in
    ap (λ (c : Needle). cond (is_live c needles) (c ∷ []) []) first ∙ ap (λ (l : List Needle). cond (is_live needle l) (needle ∷ []) []) rest
more_among (suc n) (x ∷ needles) needle behind is =
    ap (λ (l : List Needle). cond (is_live x needles) (x ∷ l) l) (more_among n needles needle behind is)
    ∙ by_test (is_live x needles) x (live_among n needles) (cond (is_live needle behind) (needle ∷ []) [])

pub next_among : (n : ℕ) (needles : List Needle) (needle : Needle) (behind : List Needle) → drop n needles ≡ needle ∷ behind
    → live_among (n + 1) needles ≡ live_among n needles ++ cond (is_live needle behind) (needle ∷ []) []
next_among n needles needle behind is = ap (λ k. live_among k needles) (let e : n + 1 ≡ suc n = omega arith in e) ∙ more_among n needles needle behind is

-- all of them
pub all_among : (n : ℕ) (needles : List Needle) → length needles ≤ n → live_among n needles ≡ live_needles needles
all_among zero [] far = refl
all_among (suc n) [] far = refl
all_among zero (x ∷ needles) far = absurd (omega arith)
all_among (suc n) (x ∷ needles) far = ap (λ (l : List Needle). cond (is_live x needles) (x ∷ l) l) (all_among n needles (omega arith))
