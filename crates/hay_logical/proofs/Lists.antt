-- Items by their places, and lists whose items are called in order.
use Rattle.std.proofs.Common.{◌≡◌, ◌≢◌, ◌⊎◌, inl, inr, ℕ, zero, suc, ◌+◌, ◌<◌, ◌≤◌, List, [], ◌∷◌, ◌++◌, length, map, Some, refl, sym, ap, subst, ◌∙◌, arith}
use Rattle.std.specs.Prelude.{slice_get, slice_set, slice_index_or}
use Rattle.std.proofs.lemmas.Bool.{cases_lt}
use Rattle.hay_logical.specs.Fits.{At}

-- AN ITEM AT A PLACE

pub at_below : {X : Type 0} (xs : List X) (j : ℕ) (x : X) → At xs j x → j < length xs
at_below [] j x e = absurd cc
at_below (y ∷ xs) zero x e = omega arith
at_below (y ∷ xs) (suc j) x e = let h = at_below xs j x e in omega (arith, h)

-- there is one at each place below the length
pub at_there : {X : Type 0} (xs : List X) (j : ℕ) → j < length xs → (x : X) × At xs j x
at_there [] j h = absurd (omega (arith, h))
at_there (x ∷ xs) zero h = (x, refl)
at_there (x ∷ xs) (suc j) h = at_there xs j (let less : j < length xs = omega (arith, h) in less)

pub at_same : {X : Type 0} (xs : List X) (j : ℕ) (x y : X) → At xs j x → At xs j y → x ≡ y
at_same xs j x y e f = let both : Some x ≡ Some y = sym e ∙ f in cc

pub at_or : {X : Type 0} (xs : List X) (j : ℕ) (x d : X) → At xs j x → slice_index_or xs j d ≡ x
at_or [] j x d e = absurd cc
at_or (y ∷ xs) zero x d e = cc
at_or (y ∷ xs) (suc j) x d e = at_or xs j x d e

pub at_read : {X : Type 0} (xs : List X) (j : ℕ) (d : X) → j < length xs → At xs j (slice_index_or xs j d)
at_read [] j d h = absurd (omega (arith, h))
at_read (x ∷ xs) zero d h = refl
at_read (x ∷ xs) (suc j) d h = at_read xs j d (let less : j < length xs = omega (arith, h) in less)

pub at_map : {X Y : Type 0} (f : X → Y) (xs : List X) (j : ℕ) (x : X) → At xs j x → At (map f xs) j (f x)
at_map f [] j x e = absurd cc
at_map f (y ∷ xs) zero x e = let same : y ≡ x = cc in ap (λ z. Some (f z)) same
at_map f (y ∷ xs) (suc j) x e = at_map f xs j x e

pub at_first : {X : Type 0} (xs ys : List X) (j : ℕ) (x : X) → At xs j x → At (xs ++ ys) j x
at_first [] ys j x e = absurd cc
at_first (y ∷ xs) ys zero x e = e
at_first (y ∷ xs) ys (suc j) x e = at_first xs ys j x e

pub at_last : {X : Type 0} (xs : List X) (x : X) → At (xs ++ x ∷ []) (length xs) x
at_last [] x = refl
at_last (y ∷ xs) x = at_last xs x

-- an item of a longer list is one of the shorter, or the last
pub at_either : {X : Type 0} (xs : List X) (z : X) (j : ℕ) (x : X) → At (xs ++ z ∷ []) j x → At xs j x ⊎ ((j ≡ length xs) × (x ≡ z))
at_either [] z zero x e = inr (refl, cc)
at_either [] z (suc j) x e = absurd cc
at_either (y ∷ xs) z zero x e = inl e
at_either (y ∷ xs) z (suc j) x e = elim (at_either xs z j x e) [
  | inl h ↦ inl h
  | inr h ↦ inr (let e : suc j ≡ suc (length xs) = ap suc h.0 in e, h.1)
]

pub at_set_same : {X : Type 0} (xs : List X) (j : ℕ) (x : X) → j < length xs → At (slice_set xs j x) j x
at_set_same [] j x h = absurd (omega (arith, h))
at_set_same (y ∷ xs) zero x h = refl
at_set_same (y ∷ xs) (suc j) x h = at_set_same xs j x (let less : j < length xs = omega (arith, h) in less)

pub at_set_other : {X : Type 0} (xs : List X) (i j : ℕ) (x : X) → i ≢ j → slice_get (slice_set xs j x) i ≡ slice_get xs i
at_set_other [] i j x h = refl
at_set_other (y ∷ xs) zero zero x h = absurd (h refl)
at_set_other (y ∷ xs) zero (suc j) x h = refl
at_set_other (y ∷ xs) (suc i) zero x h = refl
at_set_other (y ∷ xs) (suc i) (suc j) x h = at_set_other xs i j x (λ e. h (ap suc e))

pub length-slice_set : {X : Type 0} (xs : List X) (j : ℕ) (x : X) → length (slice_set xs j x) ≡ length xs
length-slice_set [] j x = refl
length-slice_set (y ∷ xs) zero x = refl
length-slice_set (y ∷ xs) (suc j) x = let h = length-slice_set xs j x in omega (arith, h)

-- ITEMS IN ORDER

-- The first n items have become what R says, and the others are as they were.
pub record Went {X : Type 0} (R : ℕ → X → X → Type 0) (n : ℕ) (old new : List X) : Type 0 where
  pub count : length new ≡ length old
  pub done : (i : ℕ) (x y : X) → i < n → At old i x → At new i y → R i x y
  pub rest : (i : ℕ) (x y : X) → n ≤ i → At old i x → At new i y → y ≡ x

pub went_start : {X : Type 0} (R : ℕ → X → X → Type 0) (xs : List X) → Went R 0 xs xs
went_start R xs = record {
  count = refl;
  done = λ i x y h e f. absurd (omega (arith, h));
  rest = λ i x y h e f. at_same xs i y x f e;
}

-- what the next item was
pub went_next : {X : Type 0} (R : ℕ → X → X → Type 0) (n : ℕ) (old new : List X) (y : X) → Went R n old new → At new n y → At old n y
went_next R n old new y w f =
    let h = at_below new n y f in
    let less : n < length old = omega (arith, h, w.count) in
    let there = at_there old n less in
    let e : n ≤ n = omega arith in
    subst (λ z. At old n z) (sym (w.rest n there.0 y e there.1 f)) there.1

pub went_step : {X : Type 0} (R S : ℕ → X → X → Type 0) (n : ℕ) (old new : List X) (y z : X) → Went R n old new → At new n y
    → ((i : ℕ) (a b : X) → i < n → R i a b → S i a b) → S n y z → Went S (n + 1) old (slice_set new n z)
went_step {X} R S n old new y z w f more step =
    let was = went_next R n old new y w f in
    let below = at_below new n y f in
    record {
      count = length-slice_set new n z ∙ w.count;
      done = λ i a b h e g. elim (cases_lt i n) [
        | inl less ↦ let apart : i ≢ n = omega (arith, less) in more i a b less (w.done i a b less e (sym (at_set_other new i n z apart) ∙ g))
        | inr most ↦
            let same : i ≡ n = omega (arith, h, most) in
            let a_is : a ≡ y = at_same old n a y (subst (λ k. At old k a) same e) was in
            let b_is : b ≡ z = at_same (slice_set new n z) n b z (subst (λ k. At (slice_set new n z) k b) same g) (at_set_same new n z below) in
            subst (λ k. S k a b) (sym same) (subst (λ v. S n v b) (sym a_is) (subst (λ v. S n y v) (sym b_is) step))
      ];
      rest = λ i a b h e g.
          let apart : i ≢ n = omega (arith, h) in
          let later : n ≤ i = omega (arith, h) in
          w.rest i a b later e (sym (at_set_other new i n z apart) ∙ g);
    }

-- all items, where all were gone over
pub went_all : {X : Type 0} (R : ℕ → X → X → Type 0) (n : ℕ) (old new : List X) → Went R n old new → length old ≤ n
    → (i : ℕ) (x y : X) → At old i x → At new i y → R i x y
went_all R n old new w all i x y e f =
    let h = at_below old i x e in
    let less : i < n = omega (arith, h, all) in
    w.done i x y less e f

-- where the call at the next item ends the loop
module _ {X : Type 0} (R : ℕ → X → X → Type 0) (n : ℕ) (old new : List X) (y z : X) (w : Went R n old new) (f : At new n y) where
  pub broken_was : At old n y
  unfolding went_next
  broken_was = went_next R n old new y w f

  pub broken_is : At (slice_set new n z) n z
  broken_is = at_set_same new n z (at_below new n y f)

  pub broken_below : (i : ℕ) (a b : X) → i < n → At old i a → At (slice_set new n z) i b → R i a b
  broken_below i a b h e g = let apart : i ≢ n = omega (arith, h) in w.done i a b h e (sym (at_set_other new i n z apart) ∙ g)

  pub broken_above : (i : ℕ) (a b : X) → n < i → At old i a → At (slice_set new n z) i b → b ≡ a
  broken_above i a b h e g =
      let apart : i ≢ n = omega (arith, h) in
      let later : n ≤ i = omega (arith, h) in
      w.rest i a b later e (sym (at_set_other new i n z apart) ∙ g)

-- what holds of each item that was called, and of each that was not
pub went_every : {X : Type 0} (R : ℕ → X → X → Type 0) (Q : X → X → Type 0) (n : ℕ) (old new : List X) → Went R n old new → ((i : ℕ) (x y : X) → R i x y → Q x y) → ((x : X) → Q x x)
    → (i : ℕ) (x y : X) → At old i x → At new i y → Q x y
went_every R Q n old new w more same i x y e f = elim (cases_lt i n) [
  | inl less ↦ more i x y (w.done i x y less e f)
  | inr most ↦ subst (λ z. Q x z) (sym (w.rest i x y most e f)) (same x)
]

-- the same of each place
pub went_each : {X : Type 0} (R Q : ℕ → X → X → Type 0) (n : ℕ) (old new : List X) → Went R n old new → ((i : ℕ) (x y : X) → R i x y → Q i x y) → ((i : ℕ) (x : X) → Q i x x)
    → (i : ℕ) (x y : X) → At old i x → At new i y → Q i x y
went_each R Q n old new w more same i x y e f = elim (cases_lt i n) [
  | inl less ↦ more i x y (w.done i x y less e f)
  | inr most ↦ subst (λ z. Q i x z) (sym (w.rest i x y most e f)) (same i x)
]

-- one item was called
pub one_same : {X : Type 0} (old : List X) (at : ℕ) (x y a b : X) → At old at x → At old at a → At (slice_set old at y) at b → (a ≡ x) × (b ≡ y)
one_same old at x y a b was e f = (at_same old at a x e was, at_same (slice_set old at y) at b y f (at_set_same old at y (at_below old at x was)))

-- the list that a loop has made of each item
pub went_map : {X : Type 0} (f : X → X) (n : ℕ) (old new : List X) → Went (λ i x y. y ≡ f x) n old new → length old ≤ n → new ≡ map f old
went_map {X} f n old new w all = by_items old new w.count (went_all _ n old new w all)
  where
    by_items : (xs ys : List X) → length ys ≡ length xs → ((i : ℕ) (x y : X) → At xs i x → At ys i y → y ≡ f x) → ys ≡ map f xs
    by_items [] [] count each = refl
    by_items [] (y ∷ ys) count each = absurd (omega (arith, count))
    by_items (x ∷ xs) [] count each = absurd (omega (arith, count))
    by_items (x ∷ xs) (y ∷ ys) count each =
        let head : y ≡ f x = each 0 x y refl refl in
        let tail : ys ≡ map f xs = by_items xs ys (omega (arith, count)) (λ i a b e g. each (suc i) a b e g) in
        cc
