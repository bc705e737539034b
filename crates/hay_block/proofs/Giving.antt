-- Lanes that change one after another.
use Rattle.std.proofs.Common.{◌≡◌, ◌<◌, ◌≤◌, ◌+◌, ℕ, zero, suc, List, [], ◌∷◌, ◌++◌, length, drop, refl, sym, subst, ◌∙◌, arith, Some, slice_get}
use Rattle.std.specs.Prelude.{slice_set}
use mathlib.Core.Logic.{dite}
use native.Mathlib.Decide.{ℕ_discrete}
use Rattle.hay_lane.proofs.Lists.{get_set, get_set_other, length_set}

-- what stands first of what is left stands there
pub first_left : {X : Type 0} (xs : List X) (i : ℕ) (x : X) (rest : List X) → drop i xs ≡ x ∷ rest → (slice_get xs i ≡ Some x) × (drop (suc i) xs ≡ rest)
first_left [] zero x rest e = absurd cc
first_left [] (suc i) x rest e = absurd cc
first_left (y ∷ xs) zero x rest e = (cc, cc)
first_left (y ∷ xs) (suc i) x rest e = first_left xs i x rest e

-- the items before one that is added, and that one
pub before_added : {X : Type 0} (xs : List X) (x : X) (i : ℕ) → i < length xs → slice_get (xs ++ x ∷ []) i ≡ slice_get xs i
before_added [] x i below = absurd (omega (arith, below))
before_added (y ∷ xs) x zero below = refl
before_added (y ∷ xs) x (suc i) below = before_added xs x i (let less : i < length xs = omega (arith, below) in less)

pub added_at : {X : Type 0} (xs : List X) (x : X) → slice_get (xs ++ x ∷ []) (length xs) ≡ Some x
added_at [] x = refl
added_at (y ∷ xs) x = added_at xs x

module _ {L S : Type 0} (Became : S → L → L → Type 0) (old : List L) where
  -- the first i became others with these, and the rest are as they were
  pub record HaveBecome (seats : List S) (i : ℕ) (now : List L) : Type 0 where
    pub long : length now ≡ length old
    pub each : (j : ℕ) (a b : L) (s : S) → j < i → slice_get old j ≡ Some a → slice_get now j ≡ Some b → slice_get seats j ≡ Some s → Became s a b
    pub rest : (j : ℕ) → i ≤ j → slice_get now j ≡ slice_get old j

  pub none_became : (seats : List S) → HaveBecome seats 0 old
  none_became seats = record { long = refl; each = λ j a b s less. absurd (omega (arith, less)); rest = λ j le. refl }

  module _ (seats : List S) (i : ℕ) (now : List L) (have : HaveBecome seats i now) (below : i < length now) (x : L) (at : slice_get now i ≡ Some x) (y : L) (s : S)
      (at_s : slice_get seats i ≡ Some s) (one : Became s x y) where
    pub one_more : HaveBecome seats (i + 1) (slice_set now i y)
    one_more = record {
      long = length_set now i y ∙ have.long;
      each = λ j a b t less at_a at_b at_t. dite (ℕ_discrete j i)
          (λ same.
          let was : x ≡ a = let both : Some x ≡ Some a = sym at ∙ (have.rest i (omega arith) ∙ subst (λ k. slice_get old k ≡ Some a) same at_a) in cc in
          let is : y ≡ b = let both : Some y ≡ Some b = sym (get_set now i y below) ∙ subst (λ k. slice_get (slice_set now i y) k ≡ Some b) same at_b in cc in
          let with_it : s ≡ t = let both : Some s ≡ Some t = sym at_s ∙ subst (λ k. slice_get seats k ≡ Some t) same at_t in cc in
          subst (λ z. Became z a b) with_it (subst (λ z. Became s z b) was (subst (Became s x) is one)))
          (λ differs. have.each j a b t (omega (arith, less, differs)) at_a (sym (get_set_other now j i y differs) ∙ at_b) at_t);
      rest = λ j le. get_set_other now j i y (λ same. omega (arith, le, same)) ∙ have.rest j (omega (arith, le));
    }

  -- one more that was added to them
  pub more_added : (seats : List S) (i : ℕ) (now : List L) → length seats ≡ i → HaveBecome seats i now → i < length now → (x : L) → slice_get now i ≡ Some x → (y : L) (s : S) → Became s x y
      → HaveBecome (seats ++ s ∷ []) (i + 1) (slice_set now i y)
  more_added seats i now many have below x at y s one =
      one_more (seats ++ s ∷ []) i now
      (record {
        long = have.long;
        each = λ j a b t less at_a at_b at_t. have.each j a b t less at_a at_b (sym (before_added seats s j (omega (arith, less, many))) ∙ at_t);
        rest = have.rest;
      }) below x at y s (subst (λ n. slice_get (seats ++ s ∷ []) n ≡ Some s) many (added_at seats s)) one
