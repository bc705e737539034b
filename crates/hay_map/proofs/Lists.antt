-- Parts of a list that an edit leaves or changes.
use Rattle.std.proofs.Common.{◌≡◌, ℕ, ◌+◌, ◌-◌, ◌<◌, ◌≤◌, inl, inr, List, [], ◌∷◌, ◌++◌, length, take, drop, replicate, set, get_or, refl, sym, ap, ◌∙◌, arith}
use Rattle.std.proofs.lemmas.List.{drop-set-add, drop-set-lt, take-set-le, drop-append-le, take-append-le, drop_at, take_all, take_more, drop_more, set_at, append_assoc}
use Rattle.std.proofs.lemmas.List.{length-take-le, length-drop, length-replicate, append-nil, drop_all}
use Rattle.std.proofs.Math.Seq.{take-set-lt}
use Rattle.hay_map.specs.MapRows.{Apart}

-- an element of a part is set
pub part-set_here : {X : Type 0} (n at r : ℕ) (xs : List X) (y : X) → r < n → take n (drop at (set xs (at + r) y)) ≡ set (take n (drop at xs)) r y
part-set_here n at r xs y h = ap (take n) (drop-set-add at xs r y) ∙ take-set-lt n (drop at xs) r y h

-- an element of another part is set
pub part-set_apart : {X : Type 0} (n at there r : ℕ) (xs : List X) (y : X) → r < n → Apart n at there → take n (drop there (set xs (at + r) y)) ≡ take n (drop there xs)
part-set_apart n at there r xs y h (inl before) =
    let under : at + r < there = omega arith in
    ap (take n) (drop-set-lt there xs (at + r) y under)
part-set_apart n at there r xs y h (inr behind) =
    let is : at + r ≡ there + (at + r - there) = omega arith in
    let past : n ≤ at + r - there = omega arith in
    ap (λ (i : ℕ). take n (drop there (set xs i y))) is
    ∙ ap (take n) (drop-set-add there xs (at + r - there) y)
    ∙ take-set-le n (drop there xs) (at + r - there) y past

-- a part that was there before more came behind
pub part-append : {X : Type 0} (n at : ℕ) (xs ys : List X) → at + n ≤ length xs → take n (drop at (xs ++ ys)) ≡ take n (drop at xs)
part-append n at xs ys h =
    let under : at ≤ length xs = omega arith in
    let long : n ≤ length (drop at xs) = simp length-drop (omega arith) in
    ap (take n) (drop-append-le at xs ys under) ∙ take-append-le n (drop at xs) ys long

-- the part that came behind
pub part-added : {X : Type 0} (n : ℕ) (xs : List X) (y : X) → take n (drop (length xs) (xs ++ replicate n y)) ≡ replicate n y
part-added n xs y =
    ap (take n) (drop_at xs (replicate n y) (length xs) refl)
    ∙ take_all n (replicate n y) (simp length-replicate (omega arith))

pub part-length : {X : Type 0} (n at : ℕ) (xs : List X) → at + n ≤ length xs → length (take n (drop at xs)) ≡ n
part-length n at xs h =
    let long : n ≤ length (drop at xs) = simp length-drop (omega arith) in
    length-take-le n (drop at xs) long

-- the next of the elements that are set one after another
pub set_next : {X : Type 0} (xs ys : List X) (k : ℕ) (d : X) → k < length ys → length xs ≡ length ys → set (take k ys ++ drop k xs) k (get_or ys k d) ≡ take (k + 1) ys ++ drop (k + 1) xs
set_next xs ys k d h same =
    let inside : k < length xs = omega arith in
    let under : k ≤ length ys = omega arith in
    ap (λ (rest : List _). set (take k ys ++ rest) k (get_or ys k d)) (drop_more xs k d inside)
    ∙ set_at (take k ys) (get_or xs k d) (drop (k + 1) xs) (get_or ys k d) k (length-take-le k ys under)
    ∙ sym (append_assoc (take k ys) (get_or ys k d ∷ []) (drop (k + 1) xs))
    ∙ ap (λ (front : List _). front ++ drop (k + 1) xs) (sym (take_more ys k d h))

pub set_through : {X : Type 0} (xs ys : List X) (n : ℕ) → length ys ≡ n → length xs ≡ n → take n ys ++ drop n xs ≡ ys
set_through xs ys n h same =
    let all : length ys ≤ n = omega arith in
    let none : length xs ≤ n = omega arith in
    ap (λ (front : List _). front ++ drop n xs) (take_all n ys all)
    ∙ ap (λ (rest : List _). ys ++ rest) (drop_all n xs none)
    ∙ append-nil ys
