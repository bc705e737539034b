-- What stands where in lists.
use Rattle.std.proofs.Common.{◌≡◌, ◌<◌, ◌-◌, ◌∙◌, ◌++◌, ℕ, zero, suc, List, [], ◌∷◌, map, length, take, refl, sym, ap, subst, arith, Some, Result, Ok, Err, slice_get, length-append, reverse}
use Rattle.std.specs.Prelude.{◌==◌, Bool, true, IfOk, OnErr}
use Rattle.std.specs.List.{AllByRecursion as Each, AllZip}
use Rattle.std.proofs.lemmas.List.{get_or-reverse, length-reverse}
use Rattle.std.proofs.lemmas.Option.{slice_get-get_or}
use Rattle.hay_meeting.proofs.Closing.{there}
use Rattle.hay_block.proofs.Giving.{added_at}
use Rattle.std.proofs.lemmas.Bool.Decides.{nat_tests}
use Rattle.hay_volume_lock.proofs.Opening.{none_left}

-- what stands in an image is the image of what stands there
pub mapped : {A B : Type 0} (f : A → B) (xs : List A) (i : ℕ) (x : A) → slice_get xs i ≡ Some x → slice_get (map f xs) i ≡ Some (f x)
mapped f [] i x e = absurd cc
mapped f (z ∷ xs) zero x e = let same : z ≡ x = cc e in ap (λ w. Some (f w)) same
mapped f (z ∷ xs) (suc i) x e = mapped f xs i x e

-- what holds of each holds of the one that stands there
pub each_at : {A : Type 0} (P : A → Type 0) (xs : List A) (i : ℕ) (x : A) → Each P xs → slice_get xs i ≡ Some x → P x
each_at P [] i x each e = absurd cc
each_at P (z ∷ xs) zero x each e = let same : z ≡ x = cc e in subst P same each.0
each_at P (z ∷ xs) (suc i) x each e = each_at P xs i x each.1 e

-- what holds of each by its place
pub each_by : {A : Type 0} (P : A → Type 0) (xs : List A) → ((i : ℕ) (x : A) → slice_get xs i ≡ Some x → P x) → Each P xs
each_by P [] by = tt
each_by P (x ∷ xs) by = (by 0 x refl, each_by P xs (λ i y at. by (suc i) y at))

-- two lists with so related items at each place
pub zip_by : {A B : Type 0} (R : A → B → Type 0) (xs : List A) (ys : List B) → length xs ≡ length ys
    → ((n : ℕ) (x : A) (y : B) → slice_get xs n ≡ Some x → slice_get ys n ≡ Some y → R x y) → AllZip R xs ys
zip_by R [] [] e by = tt
zip_by R [] (y ∷ ys) e by = absurd (omega (arith, e))
zip_by R (x ∷ xs) [] e by = absurd (omega (arith, e))
zip_by R (x ∷ xs) (y ∷ ys) e by =
    let less : length xs ≡ length ys = omega (arith, e) in (by 0 x y refl refl, zip_by R xs ys less (λ n a b at_a at_b. by (suc n) a b at_a at_b))

pub zip_at : {A B : Type 0} (R : A → B → Type 0) (xs : List A) (ys : List B) → AllZip R xs ys → (n : ℕ) (x : A) (y : B) → slice_get xs n ≡ Some x → slice_get ys n ≡ Some y → R x y
zip_at R [] [] all n x y at_x at_y = absurd cc
zip_at R [] (b ∷ ys) all n x y at_x at_y = absurd all
zip_at R (a ∷ xs) [] all n x y at_x at_y = absurd all
zip_at R (a ∷ xs) (b ∷ ys) all zero x y at_x at_y =
    let one : a ≡ x = cc at_x in let two : b ≡ y = cc at_y in subst (λ z. R z y) one (subst (R a) two all.0)
zip_at R (a ∷ xs) (b ∷ ys) all (suc n) x y at_x at_y = zip_at R xs ys all.1 n x y at_x at_y

pub zip_same : {A : Type 0} (R : A → A → Type 0) → ((x : A) → R x x) → (xs : List A) → AllZip R xs xs
zip_same R same [] = tt
zip_same R same (x ∷ xs) = (same x, zip_same R same xs)

pub zip_long : {A B : Type 0} (R : A → B → Type 0) (xs : List A) (ys : List B) → AllZip R xs ys → length ys ≡ length xs
zip_long R [] [] all = refl
zip_long R [] (b ∷ ys) all = absurd all
zip_long R (a ∷ xs) [] all = absurd all
zip_long R (a ∷ xs) (b ∷ ys) all = let rest = zip_long R xs ys all.1 in omega (arith, rest)

pub zip_unmapped : {A B X Y : Type 0} (f : A → X) (g : B → Y) (R : X → Y → Type 0) (xs : List A) (ys : List B) → AllZip R (map f xs) (map g ys) → AllZip (λ x y. R (f x) (g y)) xs ys
zip_unmapped f g R [] [] all = tt
zip_unmapped f g R [] (y ∷ ys) all = all
zip_unmapped f g R (x ∷ xs) [] all = all
zip_unmapped f g R (x ∷ xs) (y ∷ ys) all = (all.0, zip_unmapped f g R xs ys all.1)

pub zip_mapped : {A B X Y : Type 0} (f : A → X) (g : B → Y) (R : X → Y → Type 0) (xs : List A) (ys : List B) → AllZip (λ x y. R (f x) (g y)) xs ys → AllZip R (map f xs) (map g ys)
zip_mapped f g R [] [] all = tt
zip_mapped f g R [] (y ∷ ys) all = all
zip_mapped f g R (x ∷ xs) [] all = all
zip_mapped f g R (x ∷ xs) (y ∷ ys) all = (all.0, zip_mapped f g R xs ys all.1)

-- the last of a list
pub last_at : {X : Type 0} (xs ys : List X) (x : X) (n : ℕ) → ys ≡ xs ++ x ∷ [] → n ≡ length ys → slice_get ys (n - 1) ≡ Some x
last_at xs ys x n e many =
    let long = length-append xs (x ∷ []) in
    let same : n - 1 ≡ length xs = let k = ap length e in omega (arith, k, long, many) in
    subst (λ i. slice_get ys i ≡ Some x) (sym same) (subst (λ z. slice_get z (length xs) ≡ Some x) (sym e) (added_at xs x))

-- one place more of two lists
pub zip_more : {A B : Type 0} (R : A → B → Type 0) (xs : List A) (ys : List B) (i : ℕ) (x : A) (y : B) → slice_get xs i ≡ Some x → AllZip R (take i xs) ys → R x y
    → AllZip R (take (suc i) xs) (ys ++ y ∷ [])
zip_more R [] ys i x y at all one = absurd cc
zip_more R (z ∷ xs) [] zero x y at all one = let same : x ≡ z = cc at in (subst (λ w. R w y) same one, tt)
zip_more R (z ∷ xs) (b ∷ ys) zero x y at all one = absurd all
zip_more R (z ∷ xs) [] (suc i) x y at all one = absurd all
zip_more R (z ∷ xs) (b ∷ ys) (suc i) x y at all one = (all.0, zip_more R xs ys i x y at all.1 one)

pub same_item : {X : Type 0} (xs : List X) (i : ℕ) {x y : X} → slice_get xs i ≡ Some x → slice_get xs i ≡ Some y → x ≡ y
same_item {X} xs i {x} {y} a b = let both : Some x ≡ Some y = sym a ∙ b in cc

-- what holds of each image
pub each_unmapped : {A B : Type 0} (f : A → B) (P : B → Type 0) (xs : List A) → Each P (map f xs) → Each (λ x. P (f x)) xs
each_unmapped f P [] each = tt
each_unmapped f P (x ∷ xs) each = (each.0, each_unmapped f P xs each.1)

-- and what holds of each holds of its image
pub each_mapped : {A B : Type 0} (f : A → B) (P : B → Type 0) (xs : List A) → Each (λ x. P (f x)) xs → Each P (map f xs)
each_mapped f P [] each = tt
each_mapped f P (x ∷ xs) each = (each.0, each_mapped f P xs each.1)

-- what stands before the last
pub before_last : {X : Type 0} (xs ys : List X) (x y : X) → xs ++ x ∷ [] ≡ ys ++ y ∷ [] → xs ≡ ys
before_last [] [] x y e = refl
before_last [] (b ∷ ys) x y e = absurd (let n = ap length e in let m = length-append ys (y ∷ []) in omega (arith, n, m))
before_last (a ∷ xs) [] x y e = absurd (let n = ap length e in let m = length-append xs (x ∷ []) in omega (arith, n, m))
before_last (a ∷ xs) (b ∷ ys) x y e =
    let one : a ≡ b = cc e in
    let rest : xs ++ x ∷ [] ≡ ys ++ y ∷ [] = cc e in
    ap (λ z. z ∷ xs) one ∙ ap (λ z. b ∷ z) (before_last xs ys x y rest)

-- lists whose images are the same at each place
pub map_same : {X Y : Type 0} (f : X → Y) (xs ys : List X) → length ys ≡ length xs → ((i : ℕ) (x y : X) → slice_get xs i ≡ Some x → slice_get ys i ≡ Some y → f y ≡ f x) → map f xs ≡ map f ys
map_same f [] [] e each = refl
map_same f [] (y ∷ ys) e each = absurd (omega (arith, e))
map_same f (x ∷ xs) [] e each = absurd (omega (arith, e))
map_same f (x ∷ xs) (y ∷ ys) e each =
    let less : length ys ≡ length xs = omega (arith, e) in
    let rest : map f xs ≡ map f ys = map_same f xs ys less (λ i a b at_a at_b. each (suc i) a b at_a at_b) in
    ap (λ z. z ∷ map f xs) (sym (each 0 x y refl refl)) ∙ ap (λ z. f y ∷ z) rest

-- an item in the other order
pub reversed_at : {X : Type 0} (xs : List X) (i : ℕ) → i < length xs → slice_get (reverse xs) i ≡ slice_get xs (length xs - 1 - i)
reversed_at xs i below =
    let d = there xs i below in
    let long = length-reverse xs in
    slice_get-get_or (reverse xs) i d.0 (omega (arith, long, below))
    ∙ (ap Some (get_or-reverse xs i d.0 (omega (arith, below))) ∙ sym (slice_get-get_or xs (length xs - 1 - i) d.0 (omega (arith, below))))

-- one place more of a list
pub each_more : {A : Type 0} (P : A → Type 0) (xs : List A) (i : ℕ) (x : A) → slice_get xs i ≡ Some x → Each P (take i xs) → P x → Each P (take (suc i) xs)
each_more P [] i x at each one = absurd cc
each_more P (z ∷ xs) zero x at each one = let same : x ≡ z = cc at in (subst P same one, tt)
each_more P (z ∷ xs) (suc i) x at each one = (each.0, each_more P xs i x at each.1 one)

-- what follows where a call succeeded, and where it failed
pub ok_weaker : {X E : Type 0} (P Q : X → Type 0) → ((x : X) → P x → Q x) → (r : Result X E) → IfOk r P → IfOk r Q
ok_weaker P Q to (Ok x) is = to x is
ok_weaker P Q to (Err e) is = tt

pub err_weaker : {X E : Type 0} (P Q : Type 0) → (P → Q) → (r : Result X E) → OnErr r P → OnErr r Q
err_weaker P Q to (Ok x) is = tt
err_weaker P Q to (Err e) is = to is

pub ok_at : {X E : Type 0} (P : X → Type 0) (r : Result X E) (x : X) → r ≡ Ok x → IfOk r P → P x
ok_at P r x is of = subst (λ z. IfOk z P) is of

pub err_at : {X E : Type 0} (P : Type 0) (r : Result X E) (e : E) → r ≡ Err e → OnErr r P → P
err_at P r e is of = subst (λ z. OnErr z P) is of

-- a list of which it was told that it has no elements
pub none_there : {X : Type 0} (xs : List X) (n : ℕ) (b : Bool) → b ≡ (n == 0) → b ≡ true → n ≡ length xs → xs ≡ []
none_there xs n b is so many = let none : n ≡ 0 = grind (arith, nat_tests, is, so) in none_left xs (omega (arith, none, many))
