-- A list of which one after another is changed in its place.
use Rattle.std.proofs.Common.{◌≡◌, ℕ, zero, suc, ◌<◌, ◌≤◌, List, [], ◌∷◌, length, take, drop, refl, ap, arith}
use Rattle.std.specs.Prelude.{slice_index_or, slice_set}
use Rattle.std.specs.List.{AllByRecursion as Each}

-- what holds of each of a list holds of the one at a place
pub each_at : {A : Type 0} (P : A → Type 0) (xs : List A) (j : ℕ) (d : A) → Each P xs → j < length xs → P (slice_index_or xs j d)
each_at P [] j d each less = absurd (omega (arith, less))
each_at P (x ∷ xs) zero d each less = each.0
each_at P (x ∷ xs) (suc j) d each less = each_at P xs j d each.1 (omega (arith, less))

pub each_next : {A : Type 0} (P : A → Type 0) (xs : List A) (i : ℕ) (d : A) → i < length xs → Each P (take i xs) → P (slice_index_or xs i d) → Each P (take (suc i) xs)
each_next P [] i d less each is = absurd (omega (arith, less))
each_next P (x ∷ xs) zero d less each is = (is, tt)
each_next P (x ∷ xs) (suc i) d less each is = (each.0, each_next P xs i d (omega (arith, less)) each.1 is)

pub take_whole : {A : Type 0} (xs : List A) (n : ℕ) → length xs ≤ n → take n xs ≡ xs
take_whole [] zero all = refl
take_whole [] (suc n) all = refl
take_whole (x ∷ xs) zero all = absurd (omega (arith, all))
take_whole (x ∷ xs) (suc n) all = ap (λ l. x ∷ l) (take_whole xs n (omega (arith, all)))

-- where two lists have the same rest, the next ones are the same, and the rest behind them with another there
pub next_same : {A : Type 0} (xs ys : List A) (i : ℕ) (d : A) → length xs ≡ length ys → i < length ys → drop i xs ≡ drop i ys → slice_index_or xs i d ≡ slice_index_or ys i d
next_same xs [] i d long less same = absurd (omega (arith, less))
next_same [] (y ∷ ys) i d long less same = absurd (omega (arith, long))
next_same (x ∷ xs) (y ∷ ys) zero d long less same = cc same
next_same (x ∷ xs) (y ∷ ys) (suc i) d long less same = next_same xs ys i d (omega (arith, long)) (omega (arith, less)) same

pub rest_same : {A : Type 0} (xs ys : List A) (i : ℕ) (x : A) → length xs ≡ length ys → i < length ys → drop i xs ≡ drop i ys → drop (suc i) (slice_set xs i x) ≡ drop (suc i) ys
rest_same xs [] i x long less same = absurd (omega (arith, less))
rest_same [] (y ∷ ys) i x long less same = absurd (omega (arith, long))
rest_same (z ∷ zs) (y ∷ ys) zero x long less same = cc same
rest_same (z ∷ zs) (y ∷ ys) (suc i) x long less same = rest_same zs ys i x (omega (arith, long)) (omega (arith, less)) same
