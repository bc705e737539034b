-- The first of four places.
use Rattle.std.proofs.Common.{◌≡◌, ℕ, zero, suc, ◌≤◌, List, [], ◌∷◌, map, take, refl, arith}
use Rattle.std.specs.Prelude.{replicate}

pub take_same : {A : Type 0} (n : ℕ) (x : A) → n ≤ 4 → take n (x ∷ x ∷ x ∷ x ∷ []) ≡ replicate n x
take_same zero x few = refl
take_same (suc zero) x few = refl
take_same (suc (suc zero)) x few = refl
take_same (suc (suc (suc zero))) x few = refl
take_same (suc (suc (suc (suc zero)))) x few = refl
take_same (suc (suc (suc (suc (suc n))))) x few = absurd (omega arith)

pub take_map : {A B : Type 0} (f : A → B) (n : ℕ) (a b c d : A) → n ≤ 4 → take n (f a ∷ f b ∷ f c ∷ f d ∷ []) ≡ map f (take n (a ∷ b ∷ c ∷ d ∷ []))
take_map f zero a b c d few = refl
take_map f (suc zero) a b c d few = refl
take_map f (suc (suc zero)) a b c d few = refl
take_map f (suc (suc (suc zero))) a b c d few = refl
take_map f (suc (suc (suc (suc zero)))) a b c d few = refl
take_map f (suc (suc (suc (suc (suc n))))) a b c d few = absurd (omega arith)
