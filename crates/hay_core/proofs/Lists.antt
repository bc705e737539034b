-- The item of a list at which a loop stands.
use Rattle.std.proofs.Common.{◌≡◌, ℕ, zero, suc, ◌+◌, ◌<◌, ◌≤◌, ◌∷◌, ◌++◌, [], List, take, drop, length, get_or, ap, sym, ◌∙◌, refl, add-one, arith, ◌-◌, length-drop}
use Rattle.std.specs.Prelude.{slice_get, replicate}
use Rattle.std.proofs.Math.Seq.{drop-cons}
use Rattle.std.proofs.lemmas.List.{take_more, take_all}

pub next_left : {X : Type 0} (xs : List X) (i : ℕ) (x : X) → i < length xs → x ≡ get_or xs i x → drop i xs ≡ x ∷ drop (i + 1) xs
next_left {X} xs i x h is = drop-cons xs i x h ∙ ap (λ (y : X). y ∷ drop (suc i) xs) (sym is) ∙ ap (λ (k : ℕ). x ∷ drop k xs) (sym (add-one i))

pub next_done : {X : Type 0} (xs : List X) (i : ℕ) (x : X) → i < length xs → x ≡ get_or xs i x → take (i + 1) xs ≡ take i xs ++ x ∷ []
next_done {X} xs i x h is = take_more xs i x h ∙ ap (λ (y : X). take i xs ++ y ∷ []) (sym is)

pub none_left : {X : Type 0} (xs : List X) (i : ℕ) → length xs ≤ i → drop i xs ≡ []
none_left [] zero h = refl
none_left [] (suc i) h = refl
none_left (x ∷ xs) zero h = absurd (omega arith)
none_left (x ∷ xs) (suc i) h = none_left xs i (omega arith)

-- a slice to the end of the list
pub rest_of : {X : Type 0} (xs : List X) (i : ℕ) → take (length xs - i) (drop i xs) ≡ drop i xs
rest_of {X} xs i = take_all (length xs - i) (drop i xs) (omega (arith, length-drop i xs))

pub get_behind : {X : Type 0} (xs ys : List X) (n : ℕ) → length xs ≤ n → slice_get (xs ++ ys) n ≡ slice_get ys (n - length xs)
get_behind {X} [] ys n h = let same : n ≡ n - 0 = omega arith in ap (λ (k : ℕ). slice_get ys k) same
get_behind {X} (x ∷ xs) ys zero h = absurd (omega arith)
get_behind {X} (x ∷ xs) ys (suc n) h =
    let same : n - length xs ≡ suc n - suc (length xs) = omega arith in
    get_behind xs ys n (omega arith) ∙ ap (λ (k : ℕ). slice_get ys k) same

pub replicate_more : {X : Type 0} (n : ℕ) (x : X) → replicate n x ++ x ∷ [] ≡ replicate (n + 1) x
replicate_more {X} n x = go n ∙ ap (λ (k : ℕ). replicate k x) (sym (add-one n))
  where
    go : (n : ℕ) → replicate n x ++ x ∷ [] ≡ replicate (suc n) x
    go zero = refl
    go (suc n) = ap (λ (xs : List X). x ∷ xs) (go n)
