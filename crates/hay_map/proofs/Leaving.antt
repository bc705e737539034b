-- The places of a replica are left one after another.
use Rattle.std.proofs.Common.{◌≡◌, ℕ, ◌+◌, ◌%◌, ◌<◌, ◌≤◌, true, false, nat_eq, cond, inl, inr, List, length, set, refl, sym, ap, ◌∙◌, arith}
use Rattle.std.proofs.lemmas.Bool.{cases_lt, cases_eq, cond-true, cond-false, cond_both}
use Rattle.std.proofs.lemmas.List.{get_or-set_same, get_or-set_other, get_or_past, length-set}
use Rattle.hay_map.specs.Places.{gone_place, place_in}
use Rattle.hay_map.specs.declared.place.Place.{Place}
use Rattle.hay_map.specs.declared.place.Place.TheVariants as place
use Rattle.hay_map.proofs.RowLaws.{LeftEach}

-- those below i are left, and those from i on are as they were
pub record LeftBelow {P : Type 0} (n r i : ℕ) (old now : List (Place P)) : Type 0 where
  pub long : length now ≡ length old
  pub below : (k : ℕ) → k < i → place_in now k ≡ cond (nat_eq (k % n) r) (gone_place (place_in old k)) (place_in old k)
  pub above : (k : ℕ) → i ≤ k → place_in now k ≡ place_in old k

pub left_none : {P : Type 0} (n r : ℕ) (old : List (Place P)) → LeftBelow n r 0 old old
left_none n r old = record {
  long = refl;
  below = λ k h. absurd (omega arith);
  above = λ k h. refl;
}

moved : {P : Type 0} (n r i k : ℕ) (old now : List (Place P)) → k ≡ i → place_in now i ≡ cond (nat_eq (i % n) r) (gone_place (place_in old i)) (place_in old i)
    → place_in now k ≡ cond (nat_eq (k % n) r) (gone_place (place_in old k)) (place_in old k)
moved n r i k old now e here = rw e here

pub left_here : {P : Type 0} (n r i : ℕ) (old now : List (Place P)) (y : Place P) → LeftBelow n r i old now → i < length now → nat_eq (i % n) r ≡ true → y ≡ gone_place (place_in now i)
    → LeftBelow n r (i + 1) old (set now i y)
left_here n r i old now y left h t is = record {
  long = length-set now i y ∙ left.long;
  below = λ k under.
      elim (cases_eq k i) [
        | inl e ↦
            let here : place_in (set now i y) i ≡ cond (nat_eq (i % n) r) (gone_place (place_in old i)) (place_in old i) =
            get_or-set_same now i y place.None h
            ∙ is
            ∙ ap gone_place (left.above i (omega arith))
            ∙ sym (cond-true (nat_eq (i % n) r) (gone_place (place_in old i)) (place_in old i) t) in
            moved n r i k old (set now i y) e here
        | inr ne ↦
            let less : k < i = omega arith in
            get_or-set_other now i k y place.None ne ∙ left.below k less
      ];
  above = λ k over.
      let ne : k ≡ i → ⊥ = λ e. omega arith in
      let past : i ≤ k = omega arith in
      get_or-set_other now i k y place.None ne ∙ left.above k past;
}

pub left_over : {P : Type 0} (n r i : ℕ) (old now : List (Place P)) → LeftBelow n r i old now → nat_eq (i % n) r ≡ false → LeftBelow n r (i + 1) old now
left_over n r i old now left f = record {
  long = left.long;
  below = λ k under.
      elim (cases_eq k i) [
        | inl e ↦
            let here : place_in now i ≡ cond (nat_eq (i % n) r) (gone_place (place_in old i)) (place_in old i) =
            left.above i (omega arith) ∙ sym (cond-false (nat_eq (i % n) r) (gone_place (place_in old i)) (place_in old i) f) in
            moved n r i k old now e here
        | inr ne ↦ let less : k < i = omega arith in left.below k less
      ];
  above = λ k over. let past : i ≤ k = omega arith in left.above k past;
}

pub left_all : {P : Type 0} (n r : ℕ) (old now : List (Place P)) (i : ℕ) → LeftBelow n r i old now → length now ≤ i → LeftEach n r old now
left_all n r old now i left all k =
    elim (cases_lt k i) [
      | inl under ↦ left.below k under
      | inr over ↦
          let past : length now ≤ k = omega arith in
          let past_old : length old ≤ k = omega (arith, left.long) in
          get_or_past now k place.None past
          ∙ sym (cond_both (nat_eq (k % n) r) (gone_place (place_in old k)) (place_in old k) (λ x. x ≡ place.None) (λ t. ap gone_place (get_or_past old k place.None past_old))
          (λ f. get_or_past old k place.None past_old))
    ]
