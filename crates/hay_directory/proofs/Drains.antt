-- Drains by machine, of which a directory keeps some more than there are.
use Rattle.std.proofs.Common.{◌≡◌, ◌<◌, ◌≤◌, ℕ, zero, suc, false, List, [], ◌∷◌, length, take, refl, ap, arith}
use Rattle.std.specs.Prelude.{replicate, slice_set}
use Rattle.std.proofs.lemmas.List.{length-take-le, take-replicate}

pub take-set_below : {A : Type 0} (n : ℕ) (xs : List A) (i : ℕ) (x : A) → i < n → take n (slice_set xs i x) ≡ slice_set (take n xs) i x
take-set_below zero xs i x below = absurd (omega arith)
take-set_below (suc n) [] i x below = refl
take-set_below (suc n) (y ∷ ys) zero x below = refl
take-set_below (suc n) (y ∷ ys) (suc i) x below = ap (λ l. y ∷ l) (take-set_below n ys i x (omega arith))

-- no drains
pub no_drains : (n : ℕ) → n ≤ 16 → take n (replicate 16 false) ≡ replicate n false
no_drains n most = take-replicate n 16 false most

pub length-drains : (n : ℕ) → n ≤ 16 → length (take n (replicate 16 false)) ≡ n
length-drains n most = length-take-le n (replicate 16 false) most
