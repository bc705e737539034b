-- Photos that join a batch.
use Rattle.std.proofs.Common.{◌≡◌, ◌≢◌, inl, inr, ◌<◌, ◌≤◌, ◌+◌, ℕ, zero, suc, Bool, true, false, not, ◌&&◌, List, [], ◌∷◌, ◌++◌, length, All, refl, sym, ap, subst, ◌∙◌, arith, length-append}
use Rattle.std.specs.List.{list_all}
use Rattle.std.specs.Prelude.{◌==◌, nat_lt, nat_le}
use Rattle.std.proofs.lemmas.Bool.{eqb-true, leb-true, ltb-true}
use Rattle.std.proofs.lemmas.Bool.Decides.{eqb_tells}
use Rattle.std.proofs.lemmas.List.Elements.{All-append, All-cons, All-nil}
use Rattle.std.proofs.lemmas.List.Sums.{sum_by-append}
use Rattle.hay_needle.specs.declared.needle.Pair.{Pair}
use Rattle.hay_needle.specs.Sizes.{needle_total}
use Rattle.hay_needle.specs.declared.total.TheConstants.{MAX_PHOTO}
use Rattle.hay_batch.specs.declared.photo.NewPhoto.{NewPhoto}
use Rattle.hay_batch.specs.Batches.{AreDistinct, IsStorable, batch_total, max_total, photo_total}
use Rattle.hay_batch.specs.Replicas.{At}
use Rattle.hay_batch.proofs.Lists.{at_below, at_either}
use Rattle.hay_batch.specs.declared.photo.TheConstants.{MAX_PHOTOS}
use Rattle.hay_load.specs.Gathering.{IsGathered, is_beside, joins, key_of}

-- BOTH OF TWO TESTS

pub and_first : (a b : Bool) → (a && b) ≡ true → a ≡ true
and_first true b is = refl
and_first false b is = is

and_second : (a b : Bool) → (a && b) ≡ true → b ≡ true
and_second true b is = is
and_second false b is = absurd cc

not_true : (a : Bool) → not a ≡ true → a ≡ false
not_true true is = absurd cc
not_true false is = refl

all_at : {X : Type 0} (p : X → Bool) (xs : List X) (i : ℕ) (x : X) → list_all p xs ≡ true → At xs i x → p x ≡ true
all_at p [] i x all at = absurd cc
all_at p (y ∷ xs) zero x all at = let same : y ≡ x = cc in subst (λ z. p z ≡ true) same (and_first (p y) (list_all p xs) all)
all_at p (y ∷ xs) (suc i) x all at = all_at p xs i x (and_second (p y) (list_all p xs) all) at

-- ONE PHOTO

pub one_distinct : (photo : NewPhoto) → AreDistinct (photo ∷ [])
one_distinct photo zero zero b d less at there = absurd (omega (arith, less))
one_distinct photo zero (suc j) b d less at there = absurd cc
one_distinct photo (suc i) j b d less at there = absurd cc

total_most : (n : ℕ) → needle_total n ≤ 64 + n
total_most n = omega arith

pub gathered_one : (photo : NewPhoto) → length photo.bytes ≤ MAX_PHOTO → IsGathered (photo ∷ [])
gathered_one photo few =
    let most : photo_total photo ≤ 64 + length photo.bytes = total_most (length photo.bytes) in
    record {
      batch = record {
        some = omega arith;
        most = omega arith;
        storable = All-cons IsStorable photo [] (omega (arith, few)) (All-nil IsStorable);
        total = omega (arith, most, few);
      };
      key = All-cons (λ (other : NewPhoto). other.pair.key ≡ photo.pair.key) photo [] refl (All-nil (λ (other : NewPhoto). other.pair.key ≡ photo.pair.key));
      distinct = one_distinct photo;
    }

-- ONE PHOTO MORE

key_stays : (photos more : List NewPhoto) → 0 < length photos → key_of (photos ++ more) ≡ key_of photos
key_stays [] more some = absurd (omega (arith, some))
key_stays (photo ∷ photos) more some = refl

first_beside : (photos : List NewPhoto) (photo : NewPhoto) → 0 < length photos → list_all (is_beside photo) photos ≡ true → photo.pair.key ≡ key_of photos
first_beside [] photo some all = absurd (omega (arith, some))
first_beside (first ∷ photos) photo some all =
    let beside = and_first (is_beside photo first) (list_all (is_beside photo) photos) all in
    sym (eqb-true first.pair.key photo.pair.key (and_first (first.pair.key == photo.pair.key) (not (first.pair.alt == photo.pair.alt)) beside))

apart : (photo other : NewPhoto) → is_beside photo other ≡ true → other.pair ≢ photo.pair
apart photo other beside same =
    let alt : (other.pair.alt == photo.pair.alt) ≡ false = not_true (other.pair.alt == photo.pair.alt)
    (and_second (other.pair.key == photo.pair.key) (not (other.pair.alt == photo.pair.alt)) beside) in
    elim (eqb_tells other.pair.alt photo.pair.alt) [
      | inl equal ↦ let both : true ≡ false = sym equal.0 ∙ alt in absurd cc
      | inr other_alt ↦ other_alt.1 (ap (λ (p : Pair). p.alt) same)
    ]

pub more_distinct : (photos : List NewPhoto) (photo : NewPhoto) → AreDistinct photos → list_all (is_beside photo) photos ≡ true → AreDistinct (photos ++ photo ∷ [])
more_distinct photos photo distinct all i j a b less at there = elim (at_either photos photo j b there) [
  | inl later ↦ elim (at_either photos photo i a at) [
    | inl early ↦ distinct i j a b less early later
    | inr last ↦ absurd (let below = at_below photos j b later in let e = last.0 in omega (arith, below, e, less))
  ]
  | inr last ↦ elim (at_either photos photo i a at) [
    | inl early ↦ λ same. apart photo a (all_at (is_beside photo) photos i a all early) (same ∙ ap (λ (p : NewPhoto). p.pair) last.1)
    | inr both ↦ absurd (let e = last.0 in let f = both.0 in omega (arith, e, f, less))
  ]
]

pub gathered_more : (photos more : List NewPhoto) (photo : NewPhoto) → IsGathered photos → length photo.bytes ≤ MAX_PHOTO → joins photos photo ≡ true → more ≡ photos ++ photo ∷ [] → IsGathered more
gathered_more photos more photo g few joined longer =
    let all = and_first (list_all (is_beside photo) photos) (nat_lt (length photos) MAX_PHOTOS && nat_le (batch_total photos + photo_total photo) max_total) joined in
    let fits = and_second (list_all (is_beside photo) photos) (nat_lt (length photos) MAX_PHOTOS && nat_le (batch_total photos + photo_total photo) max_total) joined in
    let count : length photos < MAX_PHOTOS = ltb-true (length photos) MAX_PHOTOS (and_first (nat_lt (length photos) MAX_PHOTOS) (nat_le (batch_total photos + photo_total photo) max_total) fits) in
    let total : batch_total photos + photo_total photo ≤ max_total = leb-true (batch_total photos + photo_total photo) max_total
    (and_second (nat_lt (length photos) MAX_PHOTOS) (nat_le (batch_total photos + photo_total photo) max_total) fits) in
    let some = g.batch.some in
    let long = length-append photos (photo ∷ []) in
    let sum = sum_by-append photo_total photos (photo ∷ []) in
    let key : key_of (photos ++ photo ∷ []) ≡ key_of photos = key_stays photos (photo ∷ []) some in
    subst (λ (l : List NewPhoto). IsGathered l) (sym longer) (record {
      batch = record {
        some = omega (arith, long, some);
        most = omega (arith, long, count);
        storable = All-append IsStorable photos (photo ∷ []) g.batch.storable (All-cons IsStorable photo [] (omega (arith, few)) (All-nil IsStorable));
        total = omega (arith, sum, total);
      };
      key = subst (λ n. All (λ (other : NewPhoto). other.pair.key ≡ n) (photos ++ photo ∷ [])) (sym key)
          (All-append (λ (other : NewPhoto). other.pair.key ≡ key_of photos) photos (photo ∷ []) g.key
          (All-cons (λ (other : NewPhoto). other.pair.key ≡ key_of photos) photo [] (first_beside photos photo some all) (All-nil (λ (other : NewPhoto). other.pair.key ≡ key_of photos))));
      distinct = more_distinct photos photo g.distinct all;
    })
