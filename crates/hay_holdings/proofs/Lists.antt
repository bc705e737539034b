-- Lists in parts: what comes before an item, and lists side by side.
use Rattle.std.proofs.Common.{◌≡◌, ◌⊎◌, inl, inr, ℕ, ◌+◌, ◌≤◌, Bool, true, false, cond, List, [], ◌∷◌, ◌++◌, length, refl, sym, ap, subst, ◌∙◌, arith, count_by, Contains, take, take_while}
use Rattle.std.specs.List.{AllZip, AllByRecursion as Each}
use Rattle.std.proofs.lemmas.List.Elements.{Contains-append_right}
use Rattle.std.proofs.lemmas.List.Sums.{sum_by-cons, take_while-cons}
use mathlib.Core.List.{IsPrefix}
use Rattle.hay_history.proofs.Lists.{is_first}
use Rattle.hay_meeting.proofs.Replays.{prefix_take, take_prefix}

-- where a test fails at an item, what is taken while it holds lies before that item
pub each_taken : {X : Type 0} (P : X → Type 0) (test : X → Bool) (xs : List X) (y : X) (ys : List X) → test y ≡ false → Each P xs → Each P (take_while test (xs ++ y ∷ ys))
each_taken P test [] y ys fails each = subst (Each P) (sym (take_while-cons test y ys ∙ ap (λ (b : Bool). cond b (y ∷ take_while test ys) []) fails)) tt
each_taken P test (x ∷ xs) y ys fails each =
    subst (Each P) (sym (take_while-cons test x (xs ++ y ∷ ys)))
    (elim (test x) as (λ (b : Bool). Each P (cond b (x ∷ take_while test (xs ++ y ∷ ys)) [])) [
      | true ↦ (each.0, each_taken P test xs y ys fails each.1)
      | false ↦ tt
    ])

pub in_middle : {X : Type 0} (xs : List X) (y : X) (ys : List X) → Contains (xs ++ y ∷ ys) y
in_middle xs y ys = Contains-append_right xs (y ∷ ys) y (is_first y ys)

-- side by side, and one more
pub zip_more : {A B : Type 0} (R : A → B → Type 0) (xs xs' : List A) (ys ys' : List B) → AllZip R xs ys → AllZip R xs' ys' → AllZip R (xs ++ xs') (ys ++ ys')
zip_more R [] xs' [] ys' zip more = more
zip_more R [] xs' (y ∷ ys) ys' zip more = absurd zip
zip_more R (x ∷ xs) xs' [] ys' zip more = absurd zip
zip_more R (x ∷ xs) xs' (y ∷ ys) ys' zip more = (zip.0, zip_more R xs xs' ys ys' zip.1 more)

-- each has one beside it
pub zip_each : {A B : Type 0} (R : A → B → Type 0) (xs : List A) (ys : List B) → AllZip R xs ys → Each (λ x. (y : B) × R x y) xs
zip_each R [] [] zip = tt
zip_each R [] (y ∷ ys) zip = absurd zip
zip_each R (x ∷ xs) [] zip = absurd zip
zip_each R (x ∷ xs) (y ∷ ys) zip = ((y, zip.0), zip_each R xs ys zip.1)

-- of two beginnings the one that is no longer begins the other
pub prefix_by_length : {A : Type 0} (xs ys zs : List A) → IsPrefix xs zs → IsPrefix ys zs → length xs ≤ length ys → IsPrefix xs ys
prefix_by_length xs ys zs p q le =
    subst (λ z. IsPrefix z ys) (prefix_take xs zs p) (subst (IsPrefix (take (length xs) zs)) (prefix_take ys zs q) (take_prefix (length xs) (length ys) zs le))

-- HOW MANY PASS A TEST

abbrev one_if : Bool → ℕ
one_if b = cond b 1 0

count_cons : {X : Type 0} (q : X → Bool) (x : X) (xs : List X) → count_by q (x ∷ xs) ≡ one_if (q x) + count_by q xs
count_cons q x xs = sum_by-cons (λ y. one_if (q y)) x xs

one_at_most : (b : Bool) → one_if b ≤ 1
one_at_most b = elim b as (λ (b : Bool). one_if b ≤ 1) [ true ↦ omega arith | false ↦ omega arith ]

-- of one item more, one more at most; none more where it fails
pub count_more : {X : Type 0} (q : X → Bool) (xs : List X) (x : X) → count_by q (xs ++ x ∷ []) ≤ count_by q xs + 1
count_more q [] x = let e = count_cons q x [] in let one = one_at_most (q x) in omega (arith, e, one)
count_more q (y ∷ xs) x =
    let e = count_cons q y xs in
    let more = count_cons q y (xs ++ x ∷ []) in
    let rest = count_more q xs x in omega (arith, e, more, rest)

pub count_same : {X : Type 0} (q : X → Bool) (xs : List X) (x : X) → q x ≡ false → count_by q (xs ++ x ∷ []) ≤ count_by q xs
count_same q [] x fails = let e = count_cons q x [] in let none : one_if (q x) ≡ 0 = ap one_if fails in omega (arith, e, none)
count_same q (y ∷ xs) x fails =
    let e = count_cons q y xs in
    let more = count_cons q y (xs ++ x ∷ []) in
    let rest = count_same q xs x fails in omega (arith, e, more, rest)

-- a test that passes less
pub count_fewer : {X : Type 0} (q r : X → Bool) → ((x : X) → (q x ≡ r x) ⊎ (q x ≡ false)) → (xs : List X) → count_by q xs ≤ count_by r xs
count_fewer q r weaker [] = omega arith
count_fewer q r weaker (x ∷ xs) =
    let e = count_cons q x xs in
    let f = count_cons r x xs in
    let rest = count_fewer q r weaker xs in
    elim (weaker x) [
      | inl same ↦ let at : one_if (q x) ≡ one_if (r x) = ap one_if same in omega (arith, e, f, rest, at)
      | inr fails ↦ let none : one_if (q x) ≡ 0 = ap one_if fails in omega (arith, e, f, rest, none)
    ]

-- of what is taken before an item that fails another test
pub count_taken : {X : Type 0} (q test : X → Bool) (xs : List X) (y : X) (ys : List X) → test y ≡ false → count_by q (take_while test (xs ++ y ∷ ys)) ≤ count_by q xs
count_taken q test [] y ys fails =
    let none : take_while test (y ∷ ys) ≡ [] = take_while-cons test y ys ∙ ap (λ (b : Bool). cond b (y ∷ take_while test ys) []) fails in
    let e : count_by q (take_while test (y ∷ ys)) ≡ count_by q [] = ap (count_by q) none in omega (arith, e)
count_taken {X} q test (x ∷ xs) y ys fails =
    let rest = count_taken q test xs y ys fails in
    let whole = count_cons q x xs in
    let taken : List X = take_while test (xs ++ y ∷ ys) in
    let parts : count_by q (take_while test (x ∷ (xs ++ y ∷ ys))) ≡ count_by q (cond (test x) (x ∷ taken) []) = ap (count_by q) (take_while-cons test x (xs ++ y ∷ ys)) in
    let less : count_by q (cond (test x) (x ∷ taken) []) ≤ count_by q (x ∷ xs) =
    elim (test x) as (λ (b : Bool). count_by q (cond b (x ∷ taken) []) ≤ count_by q (x ∷ xs)) [
      | true ↦ let first = count_cons q x taken in omega (arith, first, whole, rest)
      | false ↦ let none : count_by q [] ≡ 0 = refl in omega (arith, none)
    ] in omega (arith, parts, less)
