-- Items by their places, and lists whose items are called in order.
use Rattle.std.proofs.Common.{◌≡◌, ◌≢◌, ◌⊎◌, inl, inr, ℕ, zero, suc, ◌+◌, ◌<◌, ◌≤◌, List, [], ◌∷◌, ◌++◌, length, Some, refl, sym, ap, subst, ◌∙◌, arith}
use Rattle.std.specs.Prelude.{slice_get, slice_set, slice_index_or, Result, Err, IfErr}
use Rattle.std.proofs.lemmas.Bool.{cases_lt}
use Rattle.hay_batch.specs.Replicas.{At}

-- AN ITEM AT A PLACE

pub at_below : {X : Type 0} (xs : List X) (j : ℕ) (x : X) → At xs j x → j < length xs
at_below [] j x e = absurd cc
at_below (y ∷ xs) zero x e = omega arith
at_below (y ∷ xs) (suc j) x e = let h = at_below xs j x e in omega (arith, h)

-- there is one at each place below the length
pub at_there : {X : Type 0} (xs : List X) (j : ℕ) → j < length xs → (x : X) × At xs j x
at_there [] j h = absurd (omega (arith, h))
at_there (x ∷ xs) zero h = (x, refl)
at_there (x ∷ xs) (suc j) h = at_there xs j (let less : j < length xs = omega (arith, h) in less)

pub at_same : {X : Type 0} (xs : List X) (j : ℕ) (x y : X) → At xs j x → At xs j y → x ≡ y
at_same xs j x y e f = let both : Some x ≡ Some y = sym e ∙ f in cc

pub at_read : {X : Type 0} (xs : List X) (j : ℕ) (d : X) → j < length xs → At xs j (slice_index_or xs j d)
at_read [] j d h = absurd (omega (arith, h))
at_read (x ∷ xs) zero d h = refl
at_read (x ∷ xs) (suc j) d h = at_read xs j d (let less : j < length xs = omega (arith, h) in less)

pub at_set_same : {X : Type 0} (xs : List X) (j : ℕ) (x : X) → j < length xs → At (slice_set xs j x) j x
at_set_same [] j x h = absurd (omega (arith, h))
at_set_same (y ∷ xs) zero x h = refl
at_set_same (y ∷ xs) (suc j) x h = at_set_same xs j x (let less : j < length xs = omega (arith, h) in less)

pub at_set_other : {X : Type 0} (xs : List X) (i j : ℕ) (x : X) → i ≢ j → slice_get (slice_set xs j x) i ≡ slice_get xs i
at_set_other [] i j x h = refl
at_set_other (y ∷ xs) zero zero x h = absurd (h refl)
at_set_other (y ∷ xs) zero (suc j) x h = refl
at_set_other (y ∷ xs) (suc i) zero x h = refl
at_set_other (y ∷ xs) (suc i) (suc j) x h = at_set_other xs i j x (λ e. h (ap suc e))

pub length-slice_set : {X : Type 0} (xs : List X) (j : ℕ) (x : X) → length (slice_set xs j x) ≡ length xs
length-slice_set [] j x = refl
length-slice_set (y ∷ xs) zero x = refl
length-slice_set (y ∷ xs) (suc j) x = let h = length-slice_set xs j x in omega (arith, h)

-- an item of a longer list is one of the shorter, or the last
pub at_either : {X : Type 0} (xs : List X) (z : X) (j : ℕ) (x : X) → At (xs ++ z ∷ []) j x → At xs j x ⊎ ((j ≡ length xs) × (x ≡ z))
at_either [] z zero x e = inr (refl, cc)
at_either [] z (suc j) x e = absurd cc
at_either (y ∷ xs) z zero x e = inl e
at_either (y ∷ xs) z (suc j) x e = elim (at_either xs z j x e) [
  | inl h ↦ inl h
  | inr h ↦ inr (let e : suc j ≡ suc (length xs) = ap suc h.0 in e, h.1)
]

-- the exit of a `?`
pub passed_on : {T E : Type 0} (r : Result T E) (Q : E → Type 0) (fault y : E) → r ≡ Err y → y ≡ fault → Q fault → IfErr r Q
passed_on r Q fault y e is q = subst (λ s. IfErr s Q) (sym e) (subst Q (sym is) q)

-- ITEMS IN ORDER

-- The first n items have become what R says, and the others are as they were.
pub record Went {X : Type 0} (R : X → X → Type 0) (n : ℕ) (old new : List X) : Type 0 where
  pub count : length new ≡ length old
  pub done : (i : ℕ) (x y : X) → i < n → At old i x → At new i y → R x y
  pub rest : (i : ℕ) (x y : X) → n ≤ i → At old i x → At new i y → y ≡ x

pub went_start : {X : Type 0} (R : X → X → Type 0) (xs : List X) → Went R 0 xs xs
went_start R xs = record {
  count = refl;
  done = λ i x y h e f. absurd (omega (arith, h));
  rest = λ i x y h e f. at_same xs i y x f e;
}

-- what the next item was
pub went_next : {X : Type 0} (R : X → X → Type 0) (n : ℕ) (old new : List X) (y : X) → Went R n old new → At new n y → At old n y
went_next R n old new y w f =
    let h = at_below new n y f in
    let less : n < length old = omega (arith, h, w.count) in
    let there = at_there old n less in
    let e : n ≤ n = omega arith in
    subst (λ z. At old n z) (sym (w.rest n there.0 y e there.1 f)) there.1

-- the next item was called too
pub went_step : {X : Type 0} (R S : X → X → Type 0) (n : ℕ) (old new : List X) (y z : X) → Went R n old new → At new n y → ((a b : X) → R a b → S a b) → S y z → Went S (n + 1) old (slice_set new n z)
went_step {X} R S n old new y z w f more step =
    let was = went_next R n old new y w f in
    let below = at_below new n y f in
    record {
      count = length-slice_set new n z ∙ w.count;
      done = λ i a b h e g. elim (cases_lt i n) [
        | inl less ↦ let apart : i ≢ n = omega (arith, less) in more a b (w.done i a b less e (sym (at_set_other new i n z apart) ∙ g))
        | inr most ↦
            let same : i ≡ n = omega (arith, h, most) in
            let a_is : a ≡ y = at_same old n a y (subst (λ k. At old k a) same e) was in
            let b_is : b ≡ z = at_same (slice_set new n z) n b z (subst (λ k. At (slice_set new n z) k b) same g) (at_set_same new n z below) in
            subst (λ v. S v b) (sym a_is) (subst (λ v. S y v) (sym b_is) step)
      ];
      rest = λ i a b h e g.
          let apart : i ≢ n = omega (arith, h) in
          let later : n ≤ i = omega (arith, h) in
          w.rest i a b later e (sym (at_set_other new i n z apart) ∙ g);
    }

-- all items, where all were gone over
pub went_all : {X : Type 0} (R : X → X → Type 0) (n : ℕ) (old new : List X) → Went R n old new → length old ≤ n → (i : ℕ) (x y : X) → At old i x → At new i y → R x y
went_all R n old new w all i x y e f =
    let h = at_below old i x e in
    let less : i < n = omega (arith, h, all) in
    w.done i x y less e f

-- what holds of each item that was called, and of each that was not
pub went_every : {X : Type 0} (R Q : X → X → Type 0) (n : ℕ) (old new : List X) → Went R n old new → ((x y : X) → R x y → Q x y) → ((i : ℕ) (x : X) → At old i x → Q x x)
    → (i : ℕ) (x y : X) → At old i x → At new i y → Q x y
went_every R Q n old new w more same i x y e f = elim (cases_lt i n) [
  | inl less ↦ more x y (w.done i x y less e f)
  | inr most ↦ subst (λ z. Q x z) (sym (w.rest i x y most e f)) (same i x e)
]
