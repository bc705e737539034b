-- Items by their places.
use Rattle.std.proofs.Common.{◌≡◌, ◌≢◌, ℕ, zero, suc, ◌<◌, List, [], ◌∷◌, ◌++◌, length, Some, refl, ap, arith}
use Rattle.std.specs.Prelude.{slice_get, slice_index_or, slice_set}
use Rattle.std.specs.List.{AllZip}

pub get_read : {X : Type 0} (xs : List X) (i : ℕ) (d : X) → i < length xs → slice_get xs i ≡ Some (slice_index_or xs i d)
get_read [] i d below = absurd (omega (arith, below))
get_read (x ∷ xs) zero d below = refl
get_read (x ∷ xs) (suc i) d below = get_read xs i d (let less : i < length xs = omega (arith, below) in less)

pub get_set : {X : Type 0} (xs : List X) (i : ℕ) (x : X) → i < length xs → slice_get (slice_set xs i x) i ≡ Some x
get_set [] i x below = absurd (omega (arith, below))
get_set (y ∷ xs) zero x below = refl
get_set (y ∷ xs) (suc i) x below = get_set xs i x (let less : i < length xs = omega (arith, below) in less)

pub get_set_other : {X : Type 0} (xs : List X) (i j : ℕ) (x : X) → i ≢ j → slice_get (slice_set xs j x) i ≡ slice_get xs i
get_set_other [] i j x differs = refl
get_set_other (y ∷ xs) zero zero x differs = absurd (differs refl)
get_set_other (y ∷ xs) zero (suc j) x differs = refl
get_set_other (y ∷ xs) (suc i) zero x differs = refl
get_set_other (y ∷ xs) (suc i) (suc j) x differs = get_set_other xs i j x (λ same. differs (ap suc same))

pub length_set : {X : Type 0} (xs : List X) (i : ℕ) (x : X) → length (slice_set xs i x) ≡ length xs
length_set [] i x = refl
length_set (y ∷ xs) zero x = refl
length_set (y ∷ xs) (suc i) x = let rest = length_set xs i x in omega (arith, rest)

pub all_both : {A B : Type 0} (R : A → B → Type 0) (xs xs' : List A) (ys ys' : List B) → AllZip R xs ys → AllZip R xs' ys' → AllZip R (xs ++ xs') (ys ++ ys')
all_both R [] xs' [] ys' all all' = all'
all_both R [] xs' (y ∷ ys) ys' all all' = absurd all
all_both R (x ∷ xs) xs' [] ys' all all' = absurd all
all_both R (x ∷ xs) xs' (y ∷ ys) ys' all all' = (all.0, all_both R xs xs' ys ys' all.1 all')
