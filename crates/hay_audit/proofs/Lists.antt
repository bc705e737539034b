-- Lists in which an item is set.
use Rattle.std.specs.List.{range_with_len}
use Rattle.std.proofs.Common.{◌≡◌, ◌+◌, ◌-◌, ◌<◌, ◌≤◌, take, drop, arith, ℕ, zero, suc, List, [], ◌∷◌, ◌++◌, length, map, refl, sym, ap, ◌∙◌, append_assoc}
use Rattle.std.proofs.Common.{append-nil as append_nil}
use Rattle.std.specs.Prelude.{flat_map, slice_index_or, slice_set, replicate}
use Rattle.std.proofs.lemmas.List.{length-drop, replicate_more, set_past, take_all}

pub set_twice : {X : Type 0} (xs : List X) (i : ℕ) (a b : X) → slice_set (slice_set xs i a) i b ≡ slice_set xs i b
set_twice [] i a b = refl
set_twice (x ∷ xs) zero a b = refl
set_twice (x ∷ xs) (suc i) a b = ap (λ (ys : List _). x ∷ ys) (set_twice xs i a b)

-- numbers from one on, up to another
pub range_next : (j n : ℕ) → j < n → range_with_len j (n - j) ≡ j ∷ range_with_len (j + 1) (n - (j + 1))
range_next j n h = ap (λ (m : ℕ). range_with_len j m) (let e : n - j ≡ suc (n - (j + 1)) = omega (arith, h) in e)

-- one more of the same
pub replicate_next : {X : Type 0} (n : ℕ) (x : X) → replicate (n + 1) x ≡ replicate n x ++ x ∷ []
replicate_next n x = sym (replicate_more n x)

pub set_beyond : {X : Type 0} (xs : List X) (i : ℕ) (a : X) → length xs ≤ i → slice_set xs i a ≡ xs
set_beyond xs i a h = set_past xs i a h

pub all_behind : {X : Type 0} (xs : List X) (n : ℕ) → take (length xs - n) (drop n xs) ≡ drop n xs
all_behind xs n = take_all (length xs - n) (drop n xs) (omega (arith, length-drop n xs))

-- the place behind what stands at a place
pub further_within : {X : Type 0} (xs : List X) (at behind : ℕ) → at ≤ length xs → behind ≤ length (take (length xs - at) (drop at xs)) → at + behind ≤ length xs
further_within xs at behind within more = omega (arith, within, more, ap (λ (ys : List _). length ys) (all_behind xs at), length-drop at xs)

-- what is left behind two numbers of items

pub dropped_none : {X : Type 0} (n : ℕ) → drop {A = X} n [] ≡ []
dropped_none zero = refl
dropped_none (suc n) = refl

pub drop_twice : {X : Type 0} (at behind : ℕ) (xs : List X) → drop (at + behind) xs ≡ drop behind (drop at xs)
drop_twice zero behind xs = ap (λ (n : ℕ). drop n xs) (let e : 0 + behind ≡ behind = omega arith in e)
drop_twice (suc at) behind [] = dropped_none (suc at + behind) ∙ sym (dropped_none behind)
drop_twice (suc at) behind (x ∷ xs) =
    ap (λ (n : ℕ). drop n (x ∷ xs)) (let e : suc at + behind ≡ suc (at + behind) = omega arith in e) ∙ drop_twice at behind xs

-- one number more, by what is made of it
pub range_on : (f : ℕ → ℕ) (made new : List ℕ) (j n x : ℕ) → j < n → x ≡ f j → new ≡ made ++ x ∷ []
    → new ++ map f (range_with_len (j + 1) (n - (j + 1))) ≡ made ++ map f (range_with_len j (n - j))
range_on f made new j n x h is added =
    ap (λ (xs : List ℕ). xs ++ map f (range_with_len (j + 1) (n - (j + 1)))) added
    ∙ append_assoc made (x ∷ []) (map f (range_with_len (j + 1) (n - (j + 1))))
    ∙ ap (λ (y : ℕ). made ++ (y ∷ map f (range_with_len (j + 1) (n - (j + 1))))) is
    ∙ ap (λ (xs : List ℕ). made ++ map f xs) (sym (range_next j n h))

pub set_same : {X : Type 0} (xs : List X) (i : ℕ) (d : X) → slice_set xs i (slice_index_or xs i d) ≡ xs
set_same [] i d = refl
set_same (x ∷ xs) zero d = refl
set_same (x ∷ xs) (suc i) d = ap (λ (ys : List _). x ∷ ys) (set_same xs i d)

-- each item gives a list

pub flat_on : {X Y : Type 0} (f : X → List Y) (xs ys : List X) → flat_map f (xs ++ ys) ≡ flat_map f xs ++ flat_map f ys
flat_on f [] ys = refl
flat_on f (x ∷ xs) ys = ap (λ (zs : List _). f x ++ zs) (flat_on f xs ys) ∙ sym (append_assoc (f x) (flat_map f xs) (flat_map f ys))

pub flat_twice : {X Y Z : Type 0} (f : X → List Y) (g : Y → List Z) (xs : List X) → flat_map (λ x. flat_map g (f x)) xs ≡ flat_map g (flat_map f xs)
flat_twice f g [] = refl
flat_twice f g (x ∷ xs) = ap (λ (zs : List _). flat_map g (f x) ++ zs) (flat_twice f g xs) ∙ sym (flat_on g (f x) (flat_map f xs))

pub flat_one : {X Y : Type 0} (f : X → List Y) (x : X) → flat_map f (x ∷ []) ≡ f x
flat_one f x = append_nil (f x)

pub flat_next : {X Y : Type 0} (f : X → List Y) (made new : List Y) (x : X) (xs rest : List X) → rest ≡ x ∷ xs → new ≡ made ++ f x → new ++ flat_map f xs ≡ made ++ flat_map f rest
flat_next f made new x xs rest first added =
    ap (λ (ys : List _). ys ++ flat_map f xs) added ∙ append_assoc made (f x) (flat_map f xs) ∙ ap (λ (zs : List _). made ++ flat_map f zs) (sym first)

-- one item of a list more, where the last one comes by itself
pub map_next : {X Y : Type 0} (f : X → Y) (made new : List Y) (x : X) (xs rest : List X) (last : X) → rest ≡ x ∷ xs → new ≡ made ++ f x ∷ []
    → new ++ map f (xs ++ last ∷ []) ≡ made ++ map f (rest ++ last ∷ [])
map_next f made new x xs rest last first added =
    ap (λ (ys : List _). ys ++ map f (xs ++ last ∷ [])) added ∙ append_assoc made (f x ∷ []) (map f (xs ++ last ∷ [])) ∙ ap (λ (zs : List _). made ++ map f (zs ++ last ∷ [])) (sym first)
