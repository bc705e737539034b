-- Lists whose items are told apart by a number, and lists in parts by a key.
use Rattle.std.proofs.Common.{◌≡◌, ◌≢◌, ℕ, Bool, true, false, cond, List, [], ◌∷◌, map, filter, refl, sym, ap, subst, inl, inr, Contains}
use Rattle.std.specs.Prelude.{◌==◌, if◌then◌else◌}
use Rattle.std.specs.List.{AllByRecursion as Each}
use Rattle.std.proofs.lemmas.Bool.{eq-eqb, ne_eqb}
use mathlib.Core.Logic.{dite}
use native.Mathlib.Decide.{ℕ_discrete}
use Rattle.hay_legal.specs.Known.{EachPair}
use Rattle.hay_history.proofs.Lists.{each_in, first_or_rest, in_rest, is_first, none_in}

module _ {X : Type 0} (name : X → ℕ) (other : X) where
  -- the item of this name, or the other
  abbrev pub pick : List X → ℕ → X
  pick [] n = other
  pick (x ∷ xs) n = if name x == n then x else pick xs n

  pub picked : (xs : List X) (x : X) → EachPair (λ a b. name a ≢ name b) xs → Contains xs x → pick xs (name x) ≡ x
  picked [] x apart among = absurd (none_in x among)
  picked (y ∷ ys) x apart among =
      elim (first_or_rest y ys x among) [
        | inl e ↦ rw (eq-eqb (name y) (name x) (ap name e)) e
        | inr later ↦ rw (ne_eqb (name y) (name x) (each_in (λ b. name y ≢ name b) ys x apart.0 later)) (picked ys x apart.1 later)
      ]

module _ {X : Type 0} (key : X → ℕ) where
  abbrev pub part : ℕ → List X → List X
  part k xs = filter (λ x. key x == k) xs

  pub in_part : (xs : List X) (x : X) → Contains xs x → Contains (part (key x) xs) x
  in_part [] x among = absurd (none_in x among)
  in_part (y ∷ ys) x among =
      elim (first_or_rest y ys x among) [
        | inl e ↦ rw (eq-eqb (key y) (key x) (ap key e)) (subst (λ z. Contains (y ∷ part (key x) ys) z) e (is_first y (part (key x) ys)))
        | inr later ↦ dite (ℕ_discrete (key y) (key x))
            (λ s. rw (eq-eqb (key y) (key x) s) (in_rest y (part (key x) ys) x (in_part ys x later)))
            (λ s. rw (ne_eqb (key y) (key x) s) (in_part ys x later))
      ]

  pub in_whole : (xs : List X) (k : ℕ) (x : X) → Contains (part k xs) x → Contains xs x
  in_whole [] k x among = absurd (none_in x among)
  in_whole (y ∷ ys) k x among = dite (ℕ_discrete (key y) k)
      (λ s. elim (first_or_rest y (part k ys) x (rw (eq-eqb (key y) k s) at among)) [
        | inl e ↦ subst (Contains (y ∷ ys)) e (is_first y ys)
        | inr later ↦ in_rest y ys x (in_whole ys k x later)
      ])
      (λ s. in_rest y ys x (in_whole ys k x (rw (ne_eqb (key y) k s) at among)))

  first_each : (R : X → X → Type 0) (x : X) (ys : List X) → Each (R x) (part (key x) ys) → Each (λ y. key x ≡ key y → R x y) ys
  first_each R x [] each = tt
  first_each R x (y ∷ ys) each = dite (ℕ_discrete (key y) (key x))
      (λ s. let e = rw (eq-eqb (key y) (key x) s) at each in ((λ _. e.0), first_each R x ys e.1))
      (λ s. ((λ z. absurd (s (sym z))), first_each R x ys (rw (ne_eqb (key y) (key x) s) at each)))

  -- what holds of each two of a part holds of each two of the same key
  pub pair_by_part : (R : X → X → Type 0) (xs : List X) → ((k : ℕ) → EachPair R (part k xs)) → EachPair (λ x y. key x ≡ key y → R x y) xs
  pair_by_part R [] each = tt
  pair_by_part R (x ∷ xs) each = (
    first_each R x xs (rw (eq-eqb (key x) (key x) refl) at (each (key x))).0,
    pair_by_part R xs (λ k. dite (ℕ_discrete (key x) k)
        (λ s. (rw (eq-eqb (key x) k s) at (each k)).1)
        (λ s. rw (ne_eqb (key x) k s) at (each k))),
  )

module _ {X Y : Type 0} (f : X → Y) where
  pub in_map : (xs : List X) (x : X) → Contains xs x → Contains (map f xs) (f x)
  in_map [] x among = absurd (none_in x among)
  in_map (z ∷ xs) x among = elim (first_or_rest z xs x among) [
    | inl e ↦ subst (λ w. Contains (f z ∷ map f xs) (f w)) e (is_first (f z) (map f xs))
    | inr later ↦ in_rest (f z) (map f xs) (f x) (in_map xs x later)
  ]

  pub from_map : (xs : List X) (y : Y) → Contains (map f xs) y → (x : X) × Contains xs x × (f x ≡ y)
  from_map [] y among = absurd (none_in y among)
  from_map (z ∷ xs) y among = elim (first_or_rest (f z) (map f xs) y among) [
    | inl e ↦ (z, is_first z xs, e)
    | inr later ↦ let r = from_map xs y later in (r.0, in_rest z xs r.0 r.1, r.2)
  ]

  pub each_map : (P : Y → Type 0) (xs : List X) → Each (λ x. P (f x)) xs → Each P (map f xs)
  each_map P [] each = tt
  each_map P (x ∷ xs) each = (each.0, each_map P xs each.1)

  pub each_unmap : (P : Y → Type 0) (xs : List X) → Each P (map f xs) → Each (λ x. P (f x)) xs
  each_unmap P [] each = tt
  each_unmap P (x ∷ xs) each = (each.0, each_unmap P xs each.1)

  pub pair_map : (R : Y → Y → Type 0) (xs : List X) → EachPair (λ a b. R (f a) (f b)) xs → EachPair R (map f xs)
  pair_map R [] pairs = tt
  pair_map R (x ∷ xs) pairs = (each_map (R (f x)) xs pairs.0, pair_map R xs pairs.1)

  pub pair_unmap : (R : Y → Y → Type 0) (xs : List X) → EachPair R (map f xs) → EachPair (λ a b. R (f a) (f b)) xs
  pair_unmap R [] pairs = tt
  pair_unmap R (x ∷ xs) pairs = (each_unmap (R (f x)) xs pairs.0, pair_unmap R xs pairs.1)

  pub filter_map_of : (test : Y → Bool) (xs : List X) → filter test (map f xs) ≡ map f (filter (λ x. test (f x)) xs)
  filter_map_of test [] = refl
  filter_map_of test (x ∷ xs) =
      let rest = filter_map_of test xs in
      elim (test (f x)) as (λ (b : Bool). cond b (f x ∷ filter test (map f xs)) (filter test (map f xs)) ≡ map f (cond b (x ∷ filter (λ x. test (f x)) xs) (filter (λ x. test (f x)) xs))) [
        | true ↦ ap (λ z. f x ∷ z) rest
        | false ↦ rest
      ]
