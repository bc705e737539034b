-- The answers to each lane are taken from where they stand.
use Rattle.std.proofs.Common.{◌≡◌, ◌≢◌, ℕ, ◌+◌, ◌*◌, ◌%◌, ◌/◌, ◌<◌, ◌≤◌, zero, suc, List, [], ◌∷◌, ◌++◌, length, set, Vec, Global, Some, slice_get, refl, ap, sym, ◌∙◌, arith}
use Rattle.std.proofs.lemmas.Option.{slice_get_within}
use native.Mathlib.Decide.{ℕ_discrete}
use native.Mathlib.Nat.{mod-add-div'}
use Rattle.hay_queue.specs.declared.serve.Kit.{Kit}
use Rattle.hay_queue.specs.Benches.{OutsAt}
use Rattle.hay_queue.proofs.Steps.{got_here}

-- a lane by its worker and its place there
same_lane : (a b n : ℕ) → a % n ≡ b % n → a / n ≡ b / n → a ≡ b
same_lane a b n m d = sym (mod-add-div' a n) ∙ (ap (λ (r : ℕ). r + a / n * n) m ∙ (ap (λ (q : ℕ). b % n + q * n) d ∙ mod-add-div' b n))

module _ {O : Type 0} (kits : List (Kit O)) (seats lane : ℕ) (old new : Kit O) (at : slice_get kits (lane % seats) ≡ Some old)
    (others : (k : ℕ) → k ≢ lane / seats → slice_get new.outs.items k ≡ slice_get old.outs.items k) where
  got_other : (xs : List (Kit O)) (i j : ℕ) (x : Kit O) → j ≢ i → slice_get (set xs i x) j ≡ slice_get xs j
  got_other [] i j x n = refl
  got_other (y ∷ ys) zero zero x n = absurd (n refl)
  got_other (y ∷ ys) zero (suc j) x n = refl
  got_other (y ∷ ys) (suc i) zero x n = refl
  got_other (y ∷ ys) (suc i) (suc j) x n = got_other ys i j x (λ e. n (ap suc e))

  -- the answers to another lane stay where they are
  stays : (other : ℕ) (os : Vec O Global) → other ≢ lane → OutsAt kits seats other os → Dec (other % seats ≡ lane % seats) → OutsAt (set kits (lane % seats) new) seats other os
  stays other os apart there (yes same) =
      let inside = slice_get_within kits (lane % seats) old at in
      let here : slice_get (set kits (lane % seats) new) (other % seats) ≡ Some new = ap (slice_get (set kits (lane % seats) new)) same ∙ got_here kits (lane % seats) new inside in
      let was : there.0 ≡ old = cc (sym there.1 ∙ (ap (slice_get kits) same ∙ at)) in
      let elsewhere : other / seats ≢ lane / seats = λ e. apart (same_lane other lane seats same e) in
      (new, here, others (other / seats) elsewhere ∙ (ap (λ (k : Kit O). slice_get k.outs.items (other / seats)) (sym was) ∙ there.2))
  stays other os apart there (no n) = (there.0, got_other kits (lane % seats) (other % seats) new n ∙ there.1, there.2)

  pub kept_on : (other : ℕ) (os : Vec O Global) → lane < other → OutsAt kits seats other os → OutsAt (set kits (lane % seats) new) seats other os
  kept_on other os later there = stays other os (λ e. absurd (omega arith)) there (ℕ_discrete (other % seats) (lane % seats))

-- a list with one more has what it had, and then that
module _ {A : Type 0} where
  pub got_before : (xs : List A) (a b : A) (i : ℕ) → slice_get xs i ≡ Some b → slice_get (xs ++ a ∷ []) i ≡ Some b
  got_before [] a b i e = absurd cc
  got_before (x ∷ xs) a b zero e = e
  got_before (x ∷ xs) a b (suc i) e = got_before xs a b i e

  pub got_last : (xs : List A) (a : A) (i : ℕ) → length xs ≡ i → slice_get (xs ++ a ∷ []) i ≡ Some a
  got_last [] a zero e = refl
  got_last [] a (suc i) e = absurd (omega arith)
  got_last (x ∷ xs) a zero e = absurd (omega arith)
  got_last (x ∷ xs) a (suc i) e = got_last xs a i (omega arith)

module _ {O : Type 0} (kits : List (Kit O)) (seats lane : ℕ) (old : Kit O) (at : slice_get kits (lane % seats) ≡ Some old) (answers after : List (Vec O Global))
    (outs : Vec O Global) (many : length answers ≡ lane)
    (more : after ≡ answers ++ outs ∷ []) (taken : slice_get old.outs.items (lane / seats) ≡ Some outs) (other : ℕ) (os : Vec O Global) {First : Type 0} where
  given_now : (lane ≤ other → First → OutsAt kits seats other os) → (other < lane → First → slice_get answers other ≡ Some os) → other < lane + 1 → First → Dec (other ≡ lane)
      → slice_get after other ≡ Some os
  given_now kept given lt first (no apart) = ap (λ (l : List (Vec O Global)). slice_get l other) more ∙ got_before answers outs os other (given (omega arith) first)
  given_now kept given lt first (yes is) =
      let there = kept (omega arith) first in
      let kit : there.0 ≡ old = cc (sym there.1 ∙ (ap (λ (k : ℕ). slice_get kits (k % seats)) is ∙ at)) in
      let same : os ≡ outs = cc (sym there.2 ∙ (ap (λ (k : Kit O). slice_get k.outs.items (other / seats)) kit ∙ (ap (λ (k : ℕ). slice_get old.outs.items (k / seats)) is ∙ taken))) in
      ap (λ (l : List (Vec O Global)). slice_get l other) more ∙ (got_last answers outs other (many ∙ sym is) ∙ ap (λ (v : Vec O Global). Some v) (sym same))

  pub given_on : (lane ≤ other → First → OutsAt kits seats other os) → (other < lane → First → slice_get answers other ≡ Some os) → other < lane + 1 → First → slice_get after other ≡ Some os
  given_on kept given lt first = given_now kept given lt first (ℕ_discrete other lane)
