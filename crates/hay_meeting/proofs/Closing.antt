-- Where a lock is closed, its acts are those that the last round saw.
use Rattle.std.proofs.Common.{◌≡◌, ◌<◌, ℕ, zero, suc, List, [], ◌∷◌, ◌++◌, length, refl, sym, ap, subst, ◌∙◌, arith, Some, slice_get, append-nil, length-append}
use Rattle.std.proofs.lemmas.Bool.{eq-eqb}
use mathlib.Core.List.{IsPrefix}
use Rattle.hay_turn.specs.Acts.{AllBelow, acts_of}
use Rattle.hay_turn.proofs.ActLists.{acts_of_append}
use Rattle.hay_meeting.specs.Chains.{BeginsAtLock}
use Rattle.hay_meeting.specs.Locks.{Lock, LockSight}
use Rattle.hay_meeting.specs.Sights.{Sight}

pub there : {A : Type 0} (xs : List A) (i : ℕ) → i < length xs → (x : A) × (slice_get xs i ≡ Some x)
there [] i lt = absurd (omega (arith, lt))
there (x ∷ xs) zero lt = (x, refl)
there (x ∷ xs) (suc i) lt = there xs i (omega (arith, lt))

no_more : {A : Type 0} (xs ys : List A) → xs ++ ys ≡ xs → ys ≡ []
no_more xs [] e = refl
no_more xs (y ∷ ys) e = absurd (omega (arith, ap length e, length-append xs (y ∷ ys)))

module _ {S E X T : Type 0} (lock : Lock S E X T) (at : Sight → LockSight E X) (lanes : ℕ) (sights : List Sight) where
  -- acts of which no lane has any are none
  nothing_more : (more : List E) → AllBelow lock.seat lanes more → ((i : ℕ) → i < lanes → acts_of lock.seat i more ≡ []) → more ≡ []
  nothing_more [] below none = refl
  nothing_more (act ∷ more) below none = absurd (cc (rw (eq-eqb (lock.seat act) (lock.seat act) refl) at (none (lock.seat act) below.0)))

  below_rest : (xs ys : List E) → AllBelow lock.seat lanes (xs ++ ys) → AllBelow lock.seat lanes ys
  below_rest [] ys below = below
  below_rest (x ∷ xs) ys below = below_rest xs ys below.1

  -- the value given back stands for xs, which begins with what the seats have seen and has their own acts alone
  pub closed : (h xs : List E) → length sights ≡ lanes → BeginsAtLock lock at lanes sights h → IsPrefix h xs → AllBelow lock.seat lanes xs
      → ((lane : ℕ) (s : Sight) → slice_get sights lane ≡ Some s → acts_of lock.seat lane xs ≡ (at s).own) → xs ≡ h
  closed h xs many begins p below own =
      let more : List E = p.0 in
      let none : (i : ℕ) → i < lanes → acts_of lock.seat i more ≡ [] = λ i low.
      let s = there sights i (omega (arith, low, many)) in
      no_more (acts_of lock.seat i h) (acts_of lock.seat i more) (sym (acts_of_append lock.seat i h more) ∙ (ap (acts_of lock.seat i) p.1 ∙ (own i s.0 s.1 ∙ sym (begins.own i s.0 s.1)))) in
      sym p.1 ∙ (ap (λ z. h ++ z) (nothing_more more (below_rest h more (subst (AllBelow lock.seat lanes) (sym p.1) below)) none) ∙ append-nil h)
