-- Lists of counts that do not fall.
use Rattle.std.proofs.Common.{◌≡◌, ℕ, zero, suc, ◌<◌, ◌≤◌, List, [], ◌∷◌, length, refl, ap, arith}
use Rattle.std.specs.Prelude.{slice_index, slice_set}
use Rattle.hay_legal.specs.Known.{NoneFalls}

pub falls_refl : (xs : List ℕ) → NoneFalls xs xs
falls_refl [] = tt
falls_refl (x ∷ xs) = (omega arith, falls_refl xs)

pub falls_trans : (xs ys zs : List ℕ) → NoneFalls xs ys → NoneFalls ys zs → NoneFalls xs zs
falls_trans [] [] [] h g = tt
falls_trans (x ∷ xs) (y ∷ ys) (z ∷ zs) h g = (omega (arith, h.0, g.0), falls_trans xs ys zs h.1 g.1)
falls_trans [] (y ∷ ys) zs h g = absurd h
falls_trans (x ∷ xs) [] zs h g = absurd h
falls_trans xs [] (z ∷ zs) h g = absurd g
falls_trans xs (y ∷ ys) [] h g = absurd g

-- a count that is raised to no more than what stands there later
pub falls_set : (xs ys : List ℕ) (i n : ℕ) → NoneFalls xs ys → n ≤ slice_index ys i → NoneFalls (slice_set xs i n) ys
falls_set [] ys i n h g = h
falls_set (x ∷ xs) (y ∷ ys) zero n h g = (g, h.1)
falls_set (x ∷ xs) (y ∷ ys) (suc i) n h g = (h.0, falls_set xs ys i n h.1 g)
falls_set (x ∷ xs) [] i n h g = absurd h

pub falls_at : (xs ys : List ℕ) (i : ℕ) → NoneFalls xs ys → slice_index xs i ≤ slice_index ys i
falls_at [] [] i h = omega arith
falls_at (x ∷ xs) (y ∷ ys) zero h = h.0
falls_at (x ∷ xs) (y ∷ ys) (suc i) h = falls_at xs ys i h.1
falls_at [] (y ∷ ys) i h = absurd h
falls_at (x ∷ xs) [] i h = absurd h

pub falls_length : (xs ys : List ℕ) → NoneFalls xs ys → length xs ≡ length ys
falls_length [] [] h = refl
falls_length (x ∷ xs) (y ∷ ys) h = ap suc (falls_length xs ys h.1)
falls_length [] (y ∷ ys) h = absurd h
falls_length (x ∷ xs) [] h = absurd h

pub falls_raised : (xs : List ℕ) (i n : ℕ) → slice_index xs i ≤ n → NoneFalls xs (slice_set xs i n)
falls_raised [] i n h = tt
falls_raised (x ∷ xs) zero n h = (h, falls_refl xs)
falls_raised (x ∷ xs) (suc i) n h = (omega arith, falls_raised xs i n h)

pub index_set : (xs : List ℕ) (i n : ℕ) → i < length xs → slice_index (slice_set xs i n) i ≡ n
index_set [] i n h = absurd (omega (arith, h))
index_set (x ∷ xs) zero n h = refl
index_set (x ∷ xs) (suc i) n h = index_set xs i n (omega (arith, h))

-- a count that is not 0 stands in the list
pub index_there : (xs : List ℕ) (i : ℕ) → 0 < slice_index xs i → i < length xs
index_there [] i h = absurd (omega (arith, h))
index_there (x ∷ xs) zero h = omega arith
index_there (x ∷ xs) (suc i) h = omega (arith, index_there xs i h)
