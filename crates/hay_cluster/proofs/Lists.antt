-- Laws of lists of lists, and of facts of two lists place by place.
use Rattle.std.proofs.Common.{◌≡◌, ℕ, zero, suc, ◌+◌, ◌*◌, ◌<◌, ◌≤◌, List, [], ◌∷◌, ◌++◌, length, map, Some, refl, sym, ap, subst, ◌∙◌, arith}
use Rattle.std.specs.Prelude.{slice_get, slice_index, slice_index_or, slice_set}
use Rattle.std.specs.List.{AllByRecursion, AllZip, flat_map}
use Rattle.hay_mount.specs.Mounts.{InOrder}

-- FACTS OF TWO LISTS

pub AllZip-long : {A B : Type 0} (R : A → B → Type 0) (xs : List A) (ys : List B) → AllZip R xs ys → length xs ≡ length ys
AllZip-long R [] [] all = refl
AllZip-long R [] (y ∷ ys) all = absurd all
AllZip-long R (x ∷ xs) [] all = absurd all
AllZip-long R (x ∷ xs) (y ∷ ys) all = let rest = AllZip-long R xs ys all.1 in omega (arith, rest)

-- at one place
pub AllZip-at : {A B : Type 0} (R : A → B → Type 0) (xs : List A) (ys : List B) (i : ℕ) (x : A) (d : B) → slice_get xs i ≡ Some x → AllZip R xs ys → R x (slice_index_or ys i d)
AllZip-at R [] ys i x d at all = absurd cc
AllZip-at R (x' ∷ xs) [] i x d at all = absurd all
AllZip-at R (x' ∷ xs) (y ∷ ys) zero x d at all = let same : x' ≡ x = cc in subst (λ z. R z y) same all.0
AllZip-at R (x' ∷ xs) (y ∷ ys) (suc i) x d at all = AllZip-at R xs ys i x d at all.1

-- one place changes
pub AllZip-set : {A B : Type 0} (R : A → B → Type 0) (xs : List A) (ys : List B) (i : ℕ) (x : A) (y : B) → R x y → AllZip R xs ys → AllZip R (slice_set xs i x) (slice_set ys i y)
AllZip-set R [] [] i x y here all = tt
AllZip-set R [] (y' ∷ ys) i x y here all = absurd all
AllZip-set R (x' ∷ xs) [] i x y here all = absurd all
AllZip-set R (x' ∷ xs) (y' ∷ ys) zero x y here all = (here, all.1)
AllZip-set R (x' ∷ xs) (y' ∷ ys) (suc i) x y here all = (all.0, AllZip-set R xs ys i x y here all.1)

pub AllZip-append : {A B : Type 0} (R : A → B → Type 0) (xs xs' : List A) (ys ys' : List B) → AllZip R xs ys → AllZip R xs' ys' → AllZip R (xs ++ xs') (ys ++ ys')
AllZip-append R [] xs' [] ys' all all' = all'
AllZip-append R [] xs' (y ∷ ys) ys' all all' = absurd all
AllZip-append R (x ∷ xs) xs' [] ys' all all' = absurd all
AllZip-append R (x ∷ xs) xs' (y ∷ ys) ys' all all' = (all.0, AllZip-append R xs xs' ys ys' all.1 all')

-- another fact of each place
pub AllZip-map : {A B : Type 0} (R S : A → B → Type 0) (xs : List A) (ys : List B) → ((x : A) (y : B) → R x y → S x y) → AllZip R xs ys → AllZip S xs ys
AllZip-map R S [] [] f all = tt
AllZip-map R S [] (y ∷ ys) f all = absurd all
AllZip-map R S (x ∷ xs) [] f all = absurd all
AllZip-map R S (x ∷ xs) (y ∷ ys) f all = (f x y all.0, AllZip-map R S xs ys f all.1)

-- FACTS OF ONE LIST

pub AllByRecursion-at : {A : Type 0} (P : A → Type 0) (xs : List A) (i : ℕ) (x : A) → slice_get xs i ≡ Some x → AllByRecursion P xs → P x
AllByRecursion-at P [] i x at all = absurd cc
AllByRecursion-at P (x' ∷ xs) zero x at all = let same : x' ≡ x = cc in subst (λ z. P z) same all.0
AllByRecursion-at P (x' ∷ xs) (suc i) x at all = AllByRecursion-at P xs i x at all.1

pub AllByRecursion-set : {A : Type 0} (P : A → Type 0) (xs : List A) (i : ℕ) (x : A) → P x → AllByRecursion P xs → AllByRecursion P (slice_set xs i x)
AllByRecursion-set P [] i x here all = tt
AllByRecursion-set P (x' ∷ xs) zero x here all = (here, all.1)
AllByRecursion-set P (x' ∷ xs) (suc i) x here all = (all.0, AllByRecursion-set P xs i x here all.1)

in_order : {A : Type 0} (P : ℕ → A → Type 0) (n : ℕ) (xs : List A) (i v : ℕ) (x : A) → v ≡ n + i → slice_get xs i ≡ Some x → InOrder P n xs → P v x
in_order P n [] i v x is at all = absurd cc
in_order P n (x' ∷ xs) zero v x is at all =
    let same : x' ≡ x = cc in
    let here : n ≡ v = omega arith in
    subst (λ z. P v z) same (subst (λ m. P m x') here all.0)
in_order P n (x' ∷ xs) (suc i) v x is at all = in_order P (n + 1) xs i v x (omega arith) at all.1

-- at its number
pub InOrder-get : {A : Type 0} (P : ℕ → A → Type 0) (xs : List A) (i : ℕ) (x : A) → slice_get xs i ≡ Some x → InOrder P 0 xs → P i x
InOrder-get P xs i x at all = in_order P 0 xs i i x (omega arith) at all

pub InOrder-set : {A : Type 0} (P : ℕ → A → Type 0) (n : ℕ) (xs : List A) (i v : ℕ) (x : A) → v ≡ n + i → P v x → InOrder P n xs → InOrder P n (slice_set xs i x)
InOrder-set P n [] i v x is here all = tt
InOrder-set P n (x' ∷ xs) zero v x is here all = let same : v ≡ n = omega arith in (subst (λ m. P m x) same here, all.1)
InOrder-set P n (x' ∷ xs) (suc i) v x is here all = (all.0, InOrder-set P (n + 1) xs i v x (omega arith) here all.1)

pub length-set : {A : Type 0} (xs : List A) (i : ℕ) (x : A) → length (slice_set xs i x) ≡ length xs
length-set [] i x = refl
length-set (x' ∷ xs) zero x = refl
length-set (x' ∷ xs) (suc i) x = let rest = length-set xs i x in omega (arith, rest)

-- the place that was set
pub slice_get-set : {A : Type 0} (xs : List A) (i : ℕ) (old x : A) → slice_get xs i ≡ Some old → slice_get (slice_set xs i x) i ≡ Some x
slice_get-set [] i old x at = absurd cc
slice_get-set (x' ∷ xs) zero old x at = refl
slice_get-set (x' ∷ xs) (suc i) old x at = slice_get-set xs i old x at

pub slice_index_or-set : {A : Type 0} (xs : List A) (i : ℕ) (x d : A) → i < length xs → slice_index_or (slice_set xs i x) i d ≡ x
slice_index_or-set [] i x d within = absurd (omega arith)
slice_index_or-set (x' ∷ xs) zero x d within = refl
slice_index_or-set (x' ∷ xs) (suc i) x d within = slice_index_or-set xs i x d (omega arith)

-- what stands at a place, put there again
pub set-set : {A : Type 0} (xs : List A) (i : ℕ) (x y : A) → slice_set (slice_set xs i x) i y ≡ slice_set xs i y
set-set [] i x y = refl
set-set (z ∷ xs) zero x y = refl
set-set (z ∷ xs) (suc i) x y = ap (λ zs. z ∷ zs) (set-set xs i x y)

pub set-same : {A : Type 0} (xs : List A) (i : ℕ) (d : A) → i < length xs → slice_set xs i (slice_index_or xs i d) ≡ xs
set-same [] i d within = refl
set-same (x' ∷ xs) zero d within = refl
set-same (x' ∷ xs) (suc i) d within = ap (λ ys. x' ∷ ys) (set-same xs i d (omega arith))

pub set-kept : {A : Type 0} (xs : List A) (i : ℕ) (x : A) → slice_get xs i ≡ Some x → slice_set xs i x ≡ xs
set-kept [] i x at = refl
set-kept (y ∷ xs) zero x at = let same : y ≡ x = cc in ap (λ z. z ∷ xs) (sym same)
set-kept (y ∷ xs) (suc i) x at = ap (λ zs. y ∷ zs) (set-kept xs i x at)

-- LISTS OF LISTS

pub map-append : {A B : Type 0} (f : A → B) (xs ys : List A) → map f (xs ++ ys) ≡ map f xs ++ map f ys
map-append f [] ys = refl
map-append f (x ∷ xs) ys = ap (λ zs. f x ∷ zs) (map-append f xs ys)

-- the numbers of the items of a list's lists
abbrev pub numbers : {X D : Type 0} → (D → ℕ) → (X → List D) → List X → List ℕ
numbers f g xs = map f (flat_map g xs)

module _ {X D : Type 0} (f : D → ℕ) (g : X → List D) where
  -- none falls where one list's numbers do not
  pub numbers-later : (xs : List X) (i : ℕ) (x x' : X) → slice_get xs i ≡ Some x → AllZip ◌≤◌ (map f (g x)) (map f (g x')) → AllZip ◌≤◌ (numbers f g xs) (numbers f g (slice_set xs i x'))
  numbers-later [] i x x' at later = absurd cc
  numbers-later (y ∷ xs) zero x x' at later =
      let same : y ≡ x = cc in
      let P : List ℕ → List ℕ → Type 0 = λ a b. AllZip ◌≤◌ a b in
      subst (λ a. P a (map f (g x' ++ flat_map g xs))) (sym (map-append f (g y) (flat_map g xs)))
      (subst (λ b. P (map f (g y) ++ map f (flat_map g xs)) b) (sym (map-append f (g x') (flat_map g xs)))
      (AllZip-append ◌≤◌ (map f (g y)) (map f (flat_map g xs)) (map f (g x')) (map f (flat_map g xs))
      (subst (λ (z : X). P (map f (g z)) (map f (g x'))) (sym same) later) (all_le (map f (flat_map g xs)))))
    where
      all_le : (ns : List ℕ) → AllZip ◌≤◌ ns ns
      all_le [] = tt
      all_le (n ∷ ns) = (omega arith, all_le ns)
  numbers-later (y ∷ xs) (suc i) x x' at later =
      let P : List ℕ → List ℕ → Type 0 = λ a b. AllZip ◌≤◌ a b in
      subst (λ a. P a (map f (g y ++ flat_map g (slice_set xs i x')))) (sym (map-append f (g y) (flat_map g xs)))
      (subst (λ b. P (map f (g y) ++ map f (flat_map g xs)) b) (sym (map-append f (g y) (flat_map g (slice_set xs i x'))))
      (AllZip-append ◌≤◌ (map f (g y)) (map f (flat_map g xs)) (map f (g y)) (map f (flat_map g (slice_set xs i x'))) (all_le (map f (g y))) (numbers-later xs i x x' at later)))
    where
      all_le : (ns : List ℕ) → AllZip ◌≤◌ ns ns
      all_le [] = tt
      all_le (n ∷ ns) = (omega arith, all_le ns)

  -- nothing changes where one list's numbers do not
  pub numbers-same : (xs : List X) (i : ℕ) (x x' : X) → slice_get xs i ≡ Some x → map f (g x') ≡ map f (g x) → numbers f g (slice_set xs i x') ≡ numbers f g xs
  numbers-same [] i x x' at same = absurd cc
  numbers-same (y ∷ xs) zero x x' at same =
      let here : y ≡ x = cc in
      map-append f (g x') (flat_map g xs) ∙ ap (λ ns. ns ++ map f (flat_map g xs)) (same ∙ ap (λ (z : X). map f (g z)) (sym here)) ∙ sym (map-append f (g y) (flat_map g xs))
  numbers-same (y ∷ xs) (suc i) x x' at same =
      map-append f (g y) (flat_map g (slice_set xs i x')) ∙ ap (λ ns. map f (g y) ++ ns) (numbers-same xs i x x' at same) ∙ sym (map-append f (g y) (flat_map g xs))

  -- one number changes
  pub numbers-set : (n : ℕ) (xs : List X) (i j m : ℕ) (x x' : X) → AllByRecursion (λ y. length (g y) ≡ n) xs → slice_get xs i ≡ Some x → j < n → map f (g x') ≡ slice_set (map f (g x)) j m
      → numbers f g (slice_set xs i x') ≡ slice_set (numbers f g xs) (i * n + j) m
  numbers-set n [] i j m x x' long at within one = absurd cc
  numbers-set n (y ∷ xs) zero j m x x' long at within one =
      let here : y ≡ x = cc in
      let many : j < length (map f (g y)) = let l = length-map f (g y) in omega (arith, l, long.0) in
      let place : zero * n + j ≡ j = omega arith in
      map-append f (g x') (flat_map g xs) ∙ ap (λ ns. ns ++ map f (flat_map g xs)) (one ∙ ap (λ (z : X). slice_set (map f (g z)) j m) (sym here))
      ∙ sym (set-front (map f (g y)) (map f (flat_map g xs)) j m many)
      ∙ ap (λ ns. slice_set ns j m) (sym (map-append f (g y) (flat_map g xs)))
      ∙ ap (λ k. slice_set (numbers f g (y ∷ xs)) k m) (sym place)
    where
      length-map : (h : D → ℕ) (ds : List D) → length (map h ds) ≡ length ds
      length-map h [] = refl
      length-map h (d ∷ ds) = let rest = length-map h ds in omega (arith, rest)

      set-front : (front back : List ℕ) (k v : ℕ) → k < length front → slice_set (front ++ back) k v ≡ slice_set front k v ++ back
      set-front [] back k v low = absurd (omega arith)
      set-front (a ∷ front) back zero v low = refl
      set-front (a ∷ front) back (suc k) v low = ap (λ zs. a ∷ zs) (set-front front back k v (omega arith))
  numbers-set n (y ∷ xs) (suc i) j m x x' long at within one =
      let many : length (map f (g y)) ≡ n = length-map f (g y) ∙ long.0 in
      let place : suc i * n + j ≡ length (map f (g y)) + (i * n + j) = omega (arith, many) in
      map-append f (g y) (flat_map g (slice_set xs i x')) ∙ ap (λ ns. map f (g y) ++ ns) (numbers-set n xs i j m x x' long.1 at within one)
      ∙ sym (set-rest (map f (g y)) (map f (flat_map g xs)) (i * n + j) m)
      ∙ ap (λ ns. slice_set ns (length (map f (g y)) + (i * n + j)) m) (sym (map-append f (g y) (flat_map g xs)))
      ∙ ap (λ k. slice_set (numbers f g (y ∷ xs)) k m) (sym place)
    where
      length-map : (h : D → ℕ) (ds : List D) → length (map h ds) ≡ length ds
      length-map h [] = refl
      length-map h (d ∷ ds) = let rest = length-map h ds in omega (arith, rest)

      set-rest : (front back : List ℕ) (k v : ℕ) → slice_set (front ++ back) (length front + k) v ≡ front ++ slice_set back k v
      set-rest [] back k v = let e : 0 + k ≡ k = omega arith in ap (λ z. slice_set back z v) e
      set-rest (a ∷ front) back k v =
          let e : length (a ∷ front) + k ≡ suc (length front + k) = omega arith in
          ap (λ z. slice_set (a ∷ (front ++ back)) z v) e ∙ ap (λ zs. a ∷ zs) (set-rest front back k v)

  -- where the lists are equally long, the number of an item is found by its list and its place there
  pub numbers-at : (n : ℕ) (xs : List X) (i j : ℕ) (x : X) (d : D) → AllByRecursion (λ y. length (g y) ≡ n) xs → slice_get xs i ≡ Some x → slice_get (g x) j ≡ Some d
      → slice_index (numbers f g xs) (i * n + j) ≡ f d
  numbers-at n [] i j x d long at there = absurd cc
  numbers-at n (y ∷ xs) zero j x d long at there =
      let here : y ≡ x = cc in
      let place : zero * n + j ≡ j = omega arith in
      ap (λ k. slice_index (numbers f g (y ∷ xs)) k) place ∙ ap (λ ns. slice_index ns j) (map-append f (g y) (flat_map g xs))
      ∙ front (g y) (map f (flat_map g xs)) j d (ap (λ (z : X). slice_get (g z) j) here ∙ there)
    where
      front : (ds : List D) (ns : List ℕ) (k : ℕ) (e : D) → slice_get ds k ≡ Some e → slice_index (map f ds ++ ns) k ≡ f e
      front [] ns k e is = absurd cc
      front (d' ∷ ds) ns zero e is = let same : d' ≡ e = cc in ap f same
      front (d' ∷ ds) ns (suc k) e is = front ds ns k e is
  numbers-at n (y ∷ xs) (suc i) j x d long at there =
      let many : length (map f (g y)) ≡ n = length-map f (g y) ∙ long.0 in
      let place : suc i * n + j ≡ length (map f (g y)) + (i * n + j) = omega (arith, many) in
      ap (λ k. slice_index (numbers f g (y ∷ xs)) k) place ∙ ap (λ ns. slice_index ns (length (map f (g y)) + (i * n + j))) (map-append f (g y) (flat_map g xs))
      ∙ behind (map f (g y)) (map f (flat_map g xs)) (i * n + j) ∙ numbers-at n xs i j x d long.1 at there
    where
      length-map : (h : D → ℕ) (ds : List D) → length (map h ds) ≡ length ds
      length-map h [] = refl
      length-map h (e ∷ ds) = let rest = length-map h ds in omega (arith, rest)

      behind : (front back : List ℕ) (k : ℕ) → slice_index (front ++ back) (length front + k) ≡ slice_index back k
      behind [] back k = let e : 0 + k ≡ k = omega arith in ap (λ z. slice_index back z) e
      behind (a ∷ front) back k =
          let e : length (a ∷ front) + k ≡ suc (length front + k) = omega arith in
          ap (λ z. slice_index (a ∷ (front ++ back)) z) e ∙ behind front back k

-- ONE ITEM OF A LIST THAT IS MAPPED

pub map-set : {A B : Type 0} (f : A → B) (xs : List A) (i : ℕ) (x : A) → map f (slice_set xs i x) ≡ slice_set (map f xs) i (f x)
map-set f [] i x = refl
map-set f (y ∷ xs) zero x = refl
map-set f (y ∷ xs) (suc i) x = ap (λ zs. f y ∷ zs) (map-set f xs i x)

pub map-at : {A B : Type 0} (f : A → B) (xs : List A) (i : ℕ) (x : A) → slice_get xs i ≡ Some x → slice_get (map f xs) i ≡ Some (f x)
map-at f [] i x at = absurd cc
map-at f (y ∷ xs) zero x at = let same : y ≡ x = cc in ap (λ z. Some (f z)) same
map-at f (y ∷ xs) (suc i) x at = map-at f xs i x at
