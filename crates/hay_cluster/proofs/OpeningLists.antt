-- Items that are called in order, each of which yields a list.
use Rattle.std.proofs.Common.{◌≡◌, ℕ, zero, suc, ◌+◌, ◌<◌, ◌≤◌, List, [], ◌∷◌, ◌++◌, length, map, get_or, Some, refl, sym, ap, subst, ◌∙◌, arith, append_assoc, add-one}
use Rattle.std.proofs.lemmas.List.{append-nil}
use Rattle.std.specs.Prelude.{slice_get, slice_set, Result, Err, IfOk, IfErr}
use Rattle.std.specs.List.{AllByRecursion, AllZip, flat_map}
use Rattle.hay_legal.specs.Known.{NoneFalls}
use Rattle.hay_logical.specs.Fits.{At}
use Rattle.hay_cluster.specs.Opening.{Gathers, Split}
use Rattle.hay_cluster.proofs.Lists.{AllZip-append, map-append}

-- the first so many became what R says, and the others are as they were
abbrev pub GathersFirst : {X Y : Type 0} → (X → X → List Y → Type 0) → ℕ → List X → List X → List Y → Type 0
GathersFirst R zero xs ys all = (ys ≡ xs) × (all ≡ [])
GathersFirst R (suc n) [] ys all = ⊥
GathersFirst R (suc n) (x ∷ xs) [] all = ⊥
GathersFirst R (suc n) (x ∷ xs) (y ∷ ys) all = Split (R x y) (GathersFirst R n xs ys) all

-- A record of it, by which its arguments are found.
pub record Gathered {X Y : Type 0} (R : X → X → List Y → Type 0) (n : ℕ) (xs ys : List X) (all : List Y) : Type 0 where
  pub first : GathersFirst R n xs ys all

head_at : {X : Type 0} (x y : X) (xs : List X) → slice_get (x ∷ xs) 0 ≡ Some y → x ≡ y
head_at x y xs at = cc

module _ {X Y : Type 0} (R : X → X → List Y → Type 0) where
  pub gathered_none : (xs : List X) → Gathered R 0 xs xs []
  gathered_none xs = record { first = (refl, refl) }

  was_at : (n : ℕ) (xs ys : List X) (all : List Y) (y : X) → GathersFirst R n xs ys all → At ys n y → At xs n y
  was_at zero xs ys all y g at = subst (λ l. At l 0 y) g.0 at
  was_at (suc n) [] ys all y g at = absurd g
  was_at (suc n) (x ∷ xs) [] all y g at = absurd g
  was_at (suc n) (x ∷ xs) (z ∷ ys) all y g at = was_at n xs ys g.behind y g.rest at

  -- what the next item was
  pub gathered_was : (n : ℕ) (xs ys : List X) (all : List Y) (y : X) → Gathered R n xs ys all → At ys n y → At xs n y
  gathered_was n xs ys all y g at = was_at n xs ys all y g.first at

  done_at : (n : ℕ) (xs ys : List X) (all : List Y) (i : ℕ) (x z w : X) → GathersFirst R n xs ys all → i < n → At xs i x → At (slice_set ys n z) i w → (more : List Y) × R x w more
  done_at zero xs ys all i x z w g less at at' = absurd (omega (arith, less))
  done_at (suc n) [] ys all i x z w g less at at' = absurd g
  done_at (suc n) (x' ∷ xs) [] all i x z w g less at at' = absurd g
  done_at (suc n) (x' ∷ xs) (y ∷ ys) all zero x z w g less at at' =
      let was : x' ≡ x = cc in
      let is : y ≡ w = cc in
      (g.front, subst (λ v. R x v g.front) is (subst (λ v. R v y g.front) was g.first))
  done_at (suc n) (x' ∷ xs) (y ∷ ys) all (suc i) x z w g less at at' = done_at n xs ys g.behind i x z w g.rest (let low : i < n = omega (arith, less) in low) at at'

  -- what was called before the next item is called
  pub gathered_done : (n : ℕ) (xs ys : List X) (all : List Y) (i : ℕ) (x z w : X) → Gathered R n xs ys all → i < n → At xs i x → At (slice_set ys n z) i w → (more : List Y) × R x w more
  gathered_done n xs ys all i x z w g less at at' = done_at n xs ys all i x z w g.first less at at'

  step : (n : ℕ) (xs ys : List X) (all : List Y) (y z : X) (more : List Y) → GathersFirst R n xs ys all → At ys n y → R y z more → GathersFirst R (suc n) xs (slice_set ys n z) (all ++ more)
  step zero xs [] all y z more g at r = absurd cc
  step zero [] (y' ∷ ys) all y z more g at r = absurd cc
  step zero (x ∷ xs) (y' ∷ ys) all y z more g at r =
      let same : y' ≡ y = head_at y' y ys at in
      let heads : x ≡ y = (let e : y' ≡ x = cc in sym e ∙ same) in
      let tails : ys ≡ xs = cc in
      record {
        front = more;
        behind = [];
        parts = ap (λ (l : List Y). l ++ more) g.1 ∙ sym (append-nil more);
        first = subst (λ v. R v z more) (sym heads) r;
        rest = (tails, refl);
      }
  step (suc n) [] ys all y z more g at r = absurd g
  step (suc n) (x ∷ xs) [] all y z more g at r = absurd g
  step (suc n) (x ∷ xs) (y' ∷ ys) all y z more g at r = record {
    front = g.front;
    behind = g.behind ++ more;
    parts = ap (λ (l : List Y). l ++ more) g.parts ∙ append_assoc g.front g.behind more;
    first = g.first;
    rest = step n xs ys g.behind y z more g.rest at r;
  }

  -- one more
  pub gathered_more : (n : ℕ) (xs ys : List X) (all : List Y) (y z : X) (more : List Y) → Gathered R n xs ys all → At ys n y → R y z more → Gathered R (n + 1) xs (slice_set ys n z) (all ++ more)
  gathered_more n xs ys all y z more g at r = record { first = subst (λ k. GathersFirst R k xs (slice_set ys n z) (all ++ more)) (sym (add-one n)) (step n xs ys all y z more g.first at r) }

  all_of : (n : ℕ) (xs ys : List X) (all : List Y) → GathersFirst R n xs ys all → length xs ≤ n → Gathers R xs ys all
  all_of zero [] ys all g long = subst (λ l. Gathers R [] l all) (sym g.0) g.1
  all_of zero (x ∷ xs) ys all g long = absurd (omega (arith, long))
  all_of (suc n) [] ys all g long = absurd g
  all_of (suc n) (x ∷ xs) [] all g long = absurd g
  all_of (suc n) (x ∷ xs) (y ∷ ys) all g long = record {
    front = g.front;
    behind = g.behind;
    parts = g.parts;
    first = g.first;
    rest = all_of n xs ys g.behind g.rest (let less : length xs ≤ n = omega (arith, long) in less);
  }

  -- all
  pub gathered_all : (n : ℕ) (xs ys : List X) (all : List Y) → Gathered R n xs ys all → length xs ≤ n → Gathers R xs ys all
  gathered_all n xs ys all g long = all_of n xs ys all g.first long

  -- another fact of each item that was called
  pub gathers_zip : (S : X → X → Type 0) (xs ys : List X) (all : List Y) → ((x y : X) (more : List Y) → R x y more → S x y) → Gathers R xs ys all → AllZip S xs ys
  gathers_zip S [] [] all f g = tt
  gathers_zip S [] (y ∷ ys) all f g = absurd g
  gathers_zip S (x ∷ xs) [] all f g = absurd g
  gathers_zip S (x ∷ xs) (y ∷ ys) all f g = (f x y g.front g.first, gathers_zip S xs ys g.behind f g.rest)

  still : (S : X → X → Type 0) (P : X → Type 0) (xs : List X) → ((x : X) → P x → S x x) → AllByRecursion P xs → AllZip S xs xs
  still S P [] f all = tt
  still S P (x ∷ xs) f all = (f x all.0, still S P xs f all.1)

  breaks : (S : X → X → Type 0) (P : X → Type 0) (n : ℕ) (xs ys : List X) (all : List Y) (y z : X) → ((a b : X) (more : List Y) → R a b more → S a b) → ((a : X) → P a → S a a)
      → AllByRecursion P xs → GathersFirst R n xs ys all → At ys n y → S y z → AllZip S xs (slice_set ys n z)
  breaks S P zero xs [] all y z f stays each g at s = absurd cc
  breaks S P zero [] (y' ∷ ys) all y z f stays each g at s = absurd cc
  breaks S P zero (x ∷ xs) (y' ∷ ys) all y z f stays each g at s =
      let same : y' ≡ y = head_at y' y ys at in
      let heads : x ≡ y = (let e : y' ≡ x = cc in sym e ∙ same) in
      let tails : ys ≡ xs = cc in
      (subst (λ v. S v z) (sym heads) s, subst (λ (l : List X). AllZip S xs l) (sym tails) (still S P xs stays each.1))
  breaks S P (suc n) [] ys all y z f stays each g at s = absurd g
  breaks S P (suc n) (x ∷ xs) [] all y z f stays each g at s = absurd g
  breaks S P (suc n) (x ∷ xs) (y' ∷ ys) all y z f stays each g at s = (f x y' g.front g.first, breaks S P n xs ys g.behind y z f stays each.1 g.rest at s)

  -- where the call at the next item ends the loop
  pub gathered_break : (S : X → X → Type 0) (P : X → Type 0) (n : ℕ) (xs ys : List X) (all : List Y) (y z : X) → ((a b : X) (more : List Y) → R a b more → S a b) → ((a : X) → P a → S a a)
      → AllByRecursion P xs → Gathered R n xs ys all → At ys n y → S y z → AllZip S xs (slice_set ys n z)
  gathered_break S P n xs ys all y z f stays each g at s = breaks S P n xs ys all y z f stays each g.first at s

-- where nothing was called
pub AllZip-still : {X : Type 0} (S : X → X → Type 0) (P : X → Type 0) (xs : List X) → ((x : X) → P x → S x x) → AllByRecursion P xs → AllZip S xs xs
AllZip-still S P [] f all = tt
AllZip-still S P (x ∷ xs) f all = (f x all.0, AllZip-still S P xs f all.1)

-- COUNTS OF LISTS OF LISTS

module _ {X D : Type 0} (f : D → ℕ) (g : X → List D) (S : X → X → Type 0) where
  pub each_same : (xs ys : List X) → ((x y : X) → S x y → map f (g y) ≡ map f (g x)) → AllZip S xs ys → map f (flat_map g ys) ≡ map f (flat_map g xs)
  each_same [] [] same all = refl
  each_same [] (y ∷ ys) same all = absurd all
  each_same (x ∷ xs) [] same all = absurd all
  each_same (x ∷ xs) (y ∷ ys) same all =
      map-append f (g y) (flat_map g ys)
      ∙ ap (λ (l : List ℕ). l ++ map f (flat_map g ys)) (same x y all.0)
      ∙ ap (λ (l : List ℕ). map f (g x) ++ l) (each_same xs ys same all.1)
      ∙ sym (map-append f (g x) (flat_map g xs))

  pub each_later : (xs ys : List X) → ((x y : X) → S x y → NoneFalls (map f (g x)) (map f (g y))) → AllZip S xs ys → NoneFalls (map f (flat_map g xs)) (map f (flat_map g ys))
  each_later [] [] later all = tt
  each_later [] (y ∷ ys) later all = absurd all
  each_later (x ∷ xs) [] later all = absurd all
  each_later (x ∷ xs) (y ∷ ys) later all =
      let P : List ℕ → List ℕ → Type 0 = λ a b. NoneFalls a b in
      subst (λ a. P a (map f (g y ++ flat_map g ys))) (sym (map-append f (g x) (flat_map g xs)))
      (subst (λ b. P (map f (g x) ++ map f (flat_map g xs)) b) (sym (map-append f (g y) (flat_map g ys)))
      (AllZip-append ◌≤◌ (map f (g x)) (map f (flat_map g xs)) (map f (g y)) (map f (flat_map g ys)) (later x y all.0) (each_later xs ys later all.1)))

pub at_read : {X : Type 0} (xs : List X) (i : ℕ) (d : X) → i < length xs → At xs i (get_or xs i d)
at_read [] i d within = absurd (omega (arith, within))
at_read (x ∷ xs) zero d within = refl
at_read (x ∷ xs) (suc i) d within = at_read xs i d (let less : i < length xs = omega (arith, within) in less)

pub at_set : {X : Type 0} (xs : List X) (i : ℕ) (y x : X) → At xs i y → At (slice_set xs i x) i x
at_set [] i y x at = absurd cc
at_set (z ∷ xs) zero y x at = refl
at_set (z ∷ xs) (suc i) y x at = at_set xs i y x at

-- what each is if something is told
pub each_told : {X : Type 0} (Tells : Type 0) (Q : X → Type 0) (xs : List X) → (Tells → AllByRecursion Q xs) → AllByRecursion (λ x. Tells → Q x) xs
each_told Tells Q [] all = tt
each_told Tells Q (x ∷ xs) all = (λ tells. (all tells).0, each_told Tells Q xs (λ tells. (all tells).1))

-- the exit of a `?`
pub passed_on : {T E : Type 0} (r : Result T E) (Q : E → Type 0) (fault y : E) → r ≡ Err y → y ≡ fault → Q fault → IfErr r Q
passed_on r Q fault y e is q = subst (λ s. IfErr s Q) (sym e) (subst Q (sym is) q)

pub passed_ok : {T E : Type 0} (r : Result T E) (Q : T → Type 0) (y : E) → r ≡ Err y → IfOk r Q
passed_ok r Q y e = subst (λ s. IfOk s Q) (sym e) tt
