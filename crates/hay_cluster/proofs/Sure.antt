-- Arms that are sure stay so.
use Rattle.std.proofs.Common.{◌≡◌, ℕ, zero, suc, true, Bool, List, [], ◌∷◌, Some, refl, sym, ap, subst, ◌∙◌}
use Rattle.std.specs.Prelude.{slice_get, slice_set}
use Rattle.hay_disk.specs.Counts.{StaysSure}
use Rattle.hay_cluster.specs.Causes.{StaySure}
use Rattle.hay_cluster.specs.Passing.{IsSureArm}

-- THE ARMS

module _ {A : Type 0} (is_sure : A → Bool) (faults : A → ℕ) where
  -- where the one is sure, so is the other, with the same count
  abbrev Stays : A → A → Type 0
  Stays x x' = StaysSure (is_sure x) (is_sure x') (faults x) (faults x')

  each_sure : (xs : List A) → StaySure is_sure faults xs xs
  each_sure [] = tt
  each_sure (x ∷ xs) = ((λ sure. (sure, refl)), each_sure xs)

  pub same_sure : (xs ys : List A) → ys ≡ xs → StaySure is_sure faults xs ys
  same_sure xs ys same = subst (λ (zs : List A). StaySure is_sure faults xs zs) (sym same) (each_sure xs)

  set_sure : (xs : List A) (i : ℕ) (x x' : A) → slice_get xs i ≡ Some x → Stays x x' → StaySure is_sure faults xs (slice_set xs i x')
  set_sure [] i x x' at stays = absurd cc
  set_sure (y ∷ xs) zero x x' at stays = let same : x ≡ y = cc in (subst (λ z. Stays z x') same stays, each_sure xs)
  set_sure (y ∷ xs) (suc i) x x' at stays = ((λ sure. (sure, refl)), set_sure xs i x x' at stays)

  -- one arm was used
  pub used_sure : (old xs : List A) (i : ℕ) (x x' : A) → xs ≡ old → slice_get xs i ≡ Some x → Stays x x' → StaySure is_sure faults old (slice_set xs i x')
  used_sure old xs i x x' same at stays = subst (λ (ys : List A). StaySure is_sure faults ys (slice_set xs i x')) same (set_sure xs i x x' at stays)

  -- a lane whose arm is sure has one that is
  pub arm_on : (xs ys : List A) (lane : ℕ) → StaySure is_sure faults xs ys → IsSureArm is_sure xs lane → IsSureArm is_sure ys lane
  arm_on [] ys lane stay sure = absurd cc
  arm_on (x ∷ xs) [] lane stay sure = absurd stay
  arm_on (x ∷ xs) (y ∷ ys) zero stay sure = let one : is_sure x ≡ true = cc in ap Some (stay.0 one).0
  arm_on (x ∷ xs) (y ∷ ys) (suc i) stay sure = arm_on xs ys i stay.1 sure

  -- it is the one that stands there
  arm_there : (xs : List A) (lane : ℕ) (x : A) → slice_get xs lane ≡ Some x → IsSureArm is_sure xs lane → is_sure x ≡ true
  arm_there [] lane x at sure = absurd cc
  arm_there (y ∷ xs) zero x at sure = let same : y ≡ x = cc in let one : is_sure y ≡ true = cc in sym (ap is_sure same) ∙ one
  arm_there (y ∷ xs) (suc i) x at sure = arm_there xs i x at sure

  pub arm_at : (old xs : List A) (lane : ℕ) (x : A) → xs ≡ old → slice_get xs lane ≡ Some x → IsSureArm is_sure old lane → is_sure x ≡ true
  arm_at old xs lane x same at sure = arm_there xs lane x at (subst (λ (ys : List A). IsSureArm is_sure ys lane) (sym same) sure)

  pub sure_trans : (xs ys zs : List A) → StaySure is_sure faults xs ys → StaySure is_sure faults ys zs → StaySure is_sure faults xs zs
  sure_trans [] [] [] first second = tt
  sure_trans [] [] (z ∷ zs) first second = absurd second
  sure_trans [] (y ∷ ys) zs first second = absurd first
  sure_trans (x ∷ xs) [] zs first second = absurd first
  sure_trans (x ∷ xs) (y ∷ ys) [] first second = absurd second
  sure_trans (x ∷ xs) (y ∷ ys) (z ∷ zs) first second = (λ sure. go sure, sure_trans xs ys zs first.1 second.1)
    where
      go : is_sure x ≡ true → (is_sure z ≡ true) × (faults z ≡ faults x)
      go sure = let one = first.0 sure in let two = second.0 one.0 in (two.0, two.1 ∙ one.1)
