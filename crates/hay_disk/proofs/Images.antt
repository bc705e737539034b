-- What an image has where nothing is loose.
use Rattle.std.proofs.Common.{◌≡◌, ◌<◌, ◌≤◌, ◌+◌, ◌-◌, ℕ, zero, suc, false, List, [], ◌∷◌, ◌++◌, length, get_or, inl, inr, take-append-drop, take, drop, refl, sym, ◌∙◌, ap, arith}
use Rattle.std.proofs.lemmas.List.{drop_all, drop_more}
use Rattle.std.specs.List.{slice_get}
use Rattle.hay_disk.specs.Disk.{FileState, IsImage, IsSolid, IsSolidIn, IsOutside, Changes, Keeps, Seals}

-- two lists that agree at the places below n have the same first n elements
fronts_agree : (n : ℕ) (xs ys : List ℕ) → ((k : ℕ) → k < n → slice_get xs k ≡ slice_get ys k) → take n xs ≡ take n ys
fronts_agree zero xs ys same = refl
fronts_agree (suc n) [] [] same = refl
fronts_agree (suc n) [] (y ∷ ys) same = let e = same 0 (omega arith) in cc
fronts_agree (suc n) (x ∷ xs) [] same = let e = same 0 (omega arith) in cc
fronts_agree (suc n) (x ∷ xs) (y ∷ ys) same =
    let e = same 0 (omega arith) in
    let rest = fronts_agree n xs ys (λ k below. same (suc k) (omega arith)) in
    cc

-- two lists that agree everywhere are equal
pub lists_agree : (xs ys : List ℕ) → ((k : ℕ) → slice_get xs k ≡ slice_get ys k) → xs ≡ ys
lists_agree [] [] same = refl
lists_agree [] (y ∷ ys) same = let e = same 0 in cc
lists_agree (x ∷ xs) [] same = let e = same 0 in cc
lists_agree (x ∷ xs) (y ∷ ys) same =
    let e = same 0 in
    let rest = lists_agree xs ys (λ k. same (suc k)) in
    cc

drop_nil : (at : ℕ) → drop at (let l : List ℕ = [] in l) ≡ []
drop_nil at = drop_all at [] (omega arith)

-- a part of two lists, where they agree
pub parts_agree : (at n : ℕ) (xs ys : List ℕ) → ((k : ℕ) → at ≤ k → k < at + n → slice_get xs k ≡ slice_get ys k) → take n (drop at xs) ≡ take n (drop at ys)
parts_agree zero n xs ys same = fronts_agree n xs ys (λ k below. same k (omega arith) (omega arith))
parts_agree (suc at) n [] [] same = refl
parts_agree (suc at) n [] (y ∷ ys) same = ap (λ (l : List ℕ). take n l) (sym (drop_nil at)) ∙ parts_agree at n [] ys (λ k from to. same (suc k) (omega arith) (omega arith))
parts_agree (suc at) n (x ∷ xs) [] same = parts_agree at n xs [] (λ k from to. same (suc k) (omega arith) (omega arith)) ∙ ap (λ (l : List ℕ). take n l) (drop_nil at)
parts_agree (suc at) n (x ∷ xs) (y ∷ ys) same = parts_agree at n xs ys (λ k from to. same (suc k) (omega arith) (omega arith))

-- the rest of two lists, where they agree
pub rests_agree : (at : ℕ) (xs ys : List ℕ) → ((k : ℕ) → at ≤ k → slice_get xs k ≡ slice_get ys k) → drop at xs ≡ drop at ys
rests_agree zero xs ys same = lists_agree xs ys (λ k. same k (omega arith))
rests_agree (suc at) [] [] same = refl
rests_agree (suc at) [] (y ∷ ys) same = sym (drop_nil at) ∙ rests_agree at [] ys (λ k from. same (suc k) (omega arith))
rests_agree (suc at) (x ∷ xs) [] same = rests_agree at xs [] (λ k from. same (suc k) (omega arith)) ∙ drop_nil at
rests_agree (suc at) (x ∷ xs) (y ∷ ys) same = rests_agree at xs ys (λ k from. same (suc k) (omega arith))

-- what an image has in a solid part
pub solid_part : (at n : ℕ) (file : FileState) (image : List ℕ) → IsSolidIn at n file → IsImage file image → take n (drop at image) ≡ take n (drop at file.now)
solid_part at n file image solid is = parts_agree at n image file.now (λ k from to. is.same k (solid k from to))

-- and from a place on
pub solid_rest : (at : ℕ) (file : FileState) (image : List ℕ) → ((k : ℕ) → at ≤ k → file.loose k ≡ false) → IsImage file image → drop at image ≡ drop at file.now
solid_rest at file image solid is = rests_agree at image file.now (λ k from. is.same k (solid k from))

-- where nothing is loose a stop leaves what reads give
pub solid_whole : (file : FileState) (image : List ℕ) → IsSolid file → IsImage file image → image ≡ file.now
solid_whole file image solid is = lists_agree image file.now (λ k. is.same k (solid.places k))

-- one loose place in a solid file: an image has some byte there, and elsewhere what reads gave
pub image_but_one : (at : ℕ) (old new : FileState) (image : List ℕ) → at < length old.now → IsSolid old → Changes at 1 old new → IsImage new image
    → (b : ℕ) × (image ≡ take at old.now ++ b ∷ drop (at + 1) old.now)
image_but_one at old new image inside solid changes is =
    let front : take at image ≡ take at old.now =
    solid_part 0 at new image (λ k from to. changes.solid k (solid.places k) (inl (omega arith))) is ∙ changes.before in
    let rest : drop (at + 1) image ≡ drop (at + 1) old.now =
    solid_rest (at + 1) new image (λ k from. changes.solid k (solid.places k) (inr from)) is ∙ changes.after in
    let long : at < length image = omega (arith, is.no_shorter, changes.shortest, solid.shortest) in (
      get_or image at 0,
      sym (take-append-drop at image) ∙ ap (λ (l : List ℕ). l ++ drop at image) front ∙ ap (λ (l : List ℕ). take at old.now ++ l)
          (drop_more image at 0 long ∙ ap (λ (l : List ℕ). get_or image at 0 ∷ l) rest),
    )

get_front : (at k : ℕ) (xs : List ℕ) → k < at → slice_get (take at xs) k ≡ slice_get xs k
get_front zero k xs below = absurd (omega arith)
get_front (suc at) k [] below = refl
get_front (suc at) zero (x ∷ xs) below = refl
get_front (suc at) (suc k) (x ∷ xs) below = get_front at k xs (omega arith)

get_rest : (at k : ℕ) (xs : List ℕ) → slice_get (drop at xs) k ≡ slice_get xs (at + k)
get_rest zero k xs = let e : 0 + k ≡ k = omega arith in ap (λ (i : ℕ). slice_get xs i) (sym e)
get_rest (suc at) k [] = refl
get_rest (suc at) k (x ∷ xs) = let e : suc at + k ≡ suc (at + k) = omega arith in get_rest at k xs ∙ ap (λ (i : ℕ). slice_get (x ∷ xs) i) (sym e)

-- what a change left alone reads as before
pub same_outside : (at n k : ℕ) (old new : FileState) → IsOutside at n k → Changes at n old new → slice_get new.now k ≡ slice_get old.now k
same_outside at n k old new (inl below) changes =
    sym (get_front at k new.now below) ∙ ap (λ (l : List ℕ). slice_get l k) changes.before ∙ get_front at k old.now below
same_outside at n k old new (inr above) changes =
    let e : at + n + (k - (at + n)) ≡ k = omega arith in
    ap (λ (i : ℕ). slice_get new.now i) (sym e) ∙ sym (get_rest (at + n) (k - (at + n)) new.now)
    ∙ ap (λ (l : List ℕ). slice_get l (k - (at + n))) changes.after
    ∙ get_rest (at + n) (k - (at + n)) old.now ∙ ap (λ (i : ℕ). slice_get old.now i) e

-- a place that was solid, and that a change left alone, is in each image as it was
pub image_outside : (at n k : ℕ) (old new : FileState) (image : List ℕ) → IsOutside at n k → old.loose k ≡ false → Changes at n old new → IsImage new image → slice_get image k ≡ slice_get old.now k
image_outside at n k old new image out was changes is = is.same k (changes.solid k was out) ∙ same_outside at n k old new out changes

-- the front before a change is in each image as it was, where it was solid
pub image_front : (at n : ℕ) (old new : FileState) (image : List ℕ) → IsSolidIn 0 at old → Changes at n old new → IsImage new image → take at image ≡ take at old.now
image_front at n old new image solid changes is =
    solid_part 0 at new image (λ k from to. changes.solid k (solid k from to) (inl (omega arith))) is ∙ changes.before

-- what a stop may leave after a step that keeps the bytes, it might have left before
pub image_keeps : (a b : FileState) (image : List ℕ) → Keeps a b → IsImage b image → IsImage a image
image_keeps a b image step is = record {
  no_shorter = omega (arith, step.shortest, is.no_shorter);
  no_longer = omega (arith, step.longest, is.no_longer);
  same = λ k was. is.same k (step.solid k was) ∙ ap (λ (l : List ℕ). slice_get l k) step.now;
}

pub image_seals : (at n hole : ℕ) (a b : FileState) (image : List ℕ) → Seals at n hole a b → IsImage b image → IsImage a image
image_seals at n hole a b image step is = record {
  no_shorter = omega (arith, step.shortest, is.no_shorter);
  no_longer = omega (arith, step.longest, is.no_longer);
  same = λ k was. is.same k (step.solid k was) ∙ ap (λ (l : List ℕ). slice_get l k) step.now;
}
