-- What becomes of the rows when places are added, set and left.
use Rattle.std.proofs.Common.{◌≡◌, ℕ, ◌+◌, ◌*◌, ◌/◌, ◌%◌, ◌<◌, ◌≤◌, ◌⊎◌, inl, inr, true, false, cond, nat_eq, List, [], ◌++◌, length, take, drop, replicate, set, get_or, Option}
use Rattle.std.proofs.Common.{Some, None, refl, sym, ap, ◌∙◌, arith}
use Rattle.std.specs.Prelude.{is_some}
use Rattle.std.specs.Map.{lookup}
use Rattle.std.proofs.lemmas.List.{ext_get_or, get_or-take, get_or-drop, get_or-replicate, get_or-set_same, get_or-set_other, set-get_or, length-append, length-replicate, length-set}
use Rattle.std.proofs.lemmas.Bool.{cases_Bool, cases_eq, eq-eqb, ne_eqb, cond-true, cond-false, true≢false, false≢true}
use Rattle.std.proofs.Math.Nat.{add-mod_right, div-add-mod, add-mul-mod_self_left, mod-eq_of_lt}
use Rattle.hay_needle.specs.declared.needle.Pair.{Pair}
use Rattle.hay_needle.specs.Tables.{pair_eq}
use Rattle.hay_needle.proofs.TableLaws.{pair_same, pair_refl}
use Rattle.hay_map.specs.MapRows.{MapRows, IsKept, Apart, has_key, offset_of}
use Rattle.hay_map.specs.Places.{gone_place, place_in}
use Rattle.hay_map.specs.Rows.{row_from, row_at, has_row, KeepsRows, SetsPlace, LeavesReplica, HasRoom}
use Rattle.hay_map.specs.declared.place.Place.{Place}
use Rattle.hay_map.specs.declared.place.Place.TheVariants as place
use Rattle.hay_map.proofs.Lists.{part-set_here, part-set_apart, part-append, part-added, part-length}

-- the same rows begin at the same places
pub record SameOffsets {P : Type 0} (old new : MapRows P) : Type 0 where
  pub replicas : new.replicas ≡ old.replicas
  pub blank : new.blank ≡ old.blank
  pub offsets : (pair : Pair) → offset_of new pair ≡ offset_of old pair

pub known_same : {P : Type 0} (old new : MapRows P) → SameOffsets old new → (pair : Pair) → has_row new pair ≡ has_row old pair
unfolding has_row
known_same old new same pair = ap is_some (same.offsets pair)

row_same : {P : Type 0} (old new : MapRows P) → new.replicas ≡ old.replicas → (o : Option ℕ) → new.places ≡ old.places → row_from new o ≡ row_from old o
row_same old new n None e = ap (λ (k : ℕ). replicate k place.None) n
row_same old new n (Some at) e = ap (λ (k : ℕ). take k (drop at new.places)) n ∙ ap (λ (xs : List (Place _)). take old.replicas (drop at xs)) e

pub keeps_same : {P : Type 0} (old new : MapRows P) → SameOffsets old new → new.places ≡ old.places → KeepsRows old new
unfolding row_at has_row
keeps_same old new same e = record {
  replicas = same.replicas;
  rows = λ pair. ap (row_from new) (same.offsets pair) ∙ row_same old new same.replicas (offset_of old pair) e;
  known = λ pair h. ap is_some (same.offsets pair) ∙ h;
}

-- the fields of IsKept where the number of places is the same
pub kept_same : {P : Type 0} (old new : MapRows P) → SameOffsets old new → length new.places ≡ length old.places → IsKept old → IsKept new
kept_same {P} old new same e kept = record {
  some = rw same.replicas kept.some;
  most = rw same.replicas kept.most;
  blank = same.blank ∙ kept.blank ∙ ap (λ (k : ℕ). replicate k place.None) (sym same.replicas);
  inside = λ pair at h. rw (same.replicas, e) (kept.inside pair at (sym (same.offsets pair) ∙ h));
  aligned = λ pair at h. rw same.replicas (kept.aligned pair at (sym (same.offsets pair) ∙ h));
  whole = rw (same.replicas, e) kept.whole;
  apart = λ pair other at there h i f. rw same.replicas (kept.apart pair other at there (sym (same.offsets pair) ∙ h) (sym (same.offsets other) ∙ i) f);
}

row_from_long : {P : Type 0} (rows : MapRows P) (o : Option ℕ) → ((at : ℕ) → o ≡ Some at → at + rows.replicas ≤ length rows.places) → length (row_from rows o) ≡ rows.replicas
row_from_long rows None h = length-replicate rows.replicas place.None
row_from_long rows (Some at) h = part-length rows.replicas at rows.places (h at refl)

pub row_long : {P : Type 0} (rows : MapRows P) → IsKept rows → (pair : Pair) → length (row_at rows pair) ≡ rows.replicas
unfolding row_at
row_long rows kept pair = row_from_long rows (offset_of rows pair) (kept.inside pair)

-- where no row begins, there are no photos
pub row_none : {P : Type 0} (rows : MapRows P) → rows.offsets ≡ [] → (pair : Pair) → row_at rows pair ≡ replicate rows.replicas place.None
unfolding row_at
row_none rows e pair = ap (λ (entries : List ((ℕ × ℕ) × ℕ)). row_from rows (lookup (has_key pair) entries)) e

-- A ROW IS ADDED

-- no photos behind the places, which begin the row of a pair that had none
pub record AddsRow {P : Type 0} (pair : Pair) (old new : MapRows P) : Type 0 where
  pub replicas : new.replicas ≡ old.replicas
  pub blank : new.blank ≡ old.blank
  pub places : new.places ≡ old.places ++ replicate old.replicas place.None
  pub none : offset_of old pair ≡ None
  pub offsets : (other : Pair) → offset_of new other ≡ cond (pair_eq pair other) (Some (length old.places)) (offset_of old other)

pub adds_row : {P : Type 0} (pair : Pair) (at : ℕ) (old new : MapRows P) → new.replicas ≡ old.replicas → new.blank ≡ old.blank
    → new.places ≡ old.places ++ replicate old.replicas place.None → offset_of old pair ≡ None
    → at ≡ length old.places → ((other : Pair) → offset_of new other ≡ cond (pair_eq pair other) (Some at) (offset_of old other)) → AddsRow pair old new
adds_row pair at old new n b e none begins offsets = record {
  replicas = n;
  blank = b;
  places = e;
  none = none;
  offsets = λ other. offsets other ∙ ap (λ (k : ℕ). cond (pair_eq pair other) (Some k) (offset_of old other)) begins;
}

long_added : {P : Type 0} (old new : MapRows P) → new.places ≡ old.places ++ replicate old.replicas place.None → length new.places ≡ length old.places + old.replicas
long_added old new e = ap length e ∙ length-append old.places (replicate old.replicas place.None) ∙ ap (λ (k : ℕ). length old.places + k) (length-replicate old.replicas place.None)

row_added : {P : Type 0} (old new : MapRows P) → new.replicas ≡ old.replicas → new.places ≡ old.places ++ replicate old.replicas place.None → (o : Option ℕ)
    → ((at : ℕ) → o ≡ Some at → at + old.replicas ≤ length old.places) → row_from new o ≡ row_from old o
row_added old new n e None h = ap (λ (k : ℕ). replicate k place.None) n
row_added old new n e (Some at) h =
    ap (λ (k : ℕ). take k (drop at new.places)) n
    ∙ ap (λ (xs : List (Place _)). take old.replicas (drop at xs)) e
    ∙ part-append old.replicas at old.places (replicate old.replicas place.None) (h at refl)

row_new : {P : Type 0} (old new : MapRows P) → new.replicas ≡ old.replicas → new.places ≡ old.places ++ replicate old.replicas place.None
    → row_from new (Some (length old.places)) ≡ replicate old.replicas place.None
row_new old new n e =
    ap (λ (k : ℕ). take k (drop (length old.places) new.places)) n
    ∙ ap (λ (xs : List (Place _)). take old.replicas (drop (length old.places) xs)) e
    ∙ part-added old.replicas old.places place.None

none_of : {P : Type 0} (rows : MapRows P) (pair other : Pair) → offset_of rows pair ≡ None → pair_eq pair other ≡ true → offset_of rows other ≡ None
none_of rows pair other none t = ap (offset_of rows) (sym (pair_same pair other t)) ∙ none

pub added_rows : {P : Type 0} (pair : Pair) (old new : MapRows P) → AddsRow pair old new → IsKept old → KeepsRows old new
unfolding row_at has_row
added_rows pair old new adds kept = record {
  replicas = adds.replicas;
  rows = λ other.
      elim (cases_Bool (pair_eq pair other)) [
        | inl t ↦
            ap (row_from new) (adds.offsets other ∙ cond-true (pair_eq pair other) (Some (length old.places)) (offset_of old other) t)
            ∙ row_new old new adds.replicas adds.places
            ∙ sym (ap (row_from old) (none_of old pair other adds.none t))
        | inr f ↦
            ap (row_from new) (adds.offsets other ∙ cond-false (pair_eq pair other) (Some (length old.places)) (offset_of old other) f)
            ∙ row_added old new adds.replicas adds.places (offset_of old other) (kept.inside other)
      ];
  known = λ other h.
      elim (cases_Bool (pair_eq pair other)) [
        | inl t ↦ ap is_some (adds.offsets other ∙ cond-true (pair_eq pair other) (Some (length old.places)) (offset_of old other) t)
        | inr f ↦ ap is_some (adds.offsets other ∙ cond-false (pair_eq pair other) (Some (length old.places)) (offset_of old other) f) ∙ h
      ];
}

pub added_known : {P : Type 0} (pair : Pair) (old new : MapRows P) → AddsRow pair old new → has_row new pair ≡ true
unfolding has_row
added_known pair old new adds = ap is_some (adds.offsets pair ∙ cond-true (pair_eq pair pair) (Some (length old.places)) (offset_of old pair) (pair_refl pair))

some_same : (a b : ℕ) (o : Option ℕ) → o ≡ Some a → o ≡ Some b → a ≡ b
some_same a b o h i = cc

-- where a row begins: the new one, or an old one
offset_cases : {P : Type 0} (pair : Pair) (old new : MapRows P) → AddsRow pair old new → (other : Pair) (at : ℕ) → offset_of new other ≡ Some at
    → ((pair_eq pair other ≡ true) × (at ≡ length old.places)) ⊎ ((pair_eq pair other ≡ false) × (offset_of old other ≡ Some at))
offset_cases pair old new adds other at h =
    elim (cases_Bool (pair_eq pair other)) [
      | inl t ↦ inl (t, some_same at (length old.places) (offset_of new other) h (adds.offsets other ∙ cond-true (pair_eq pair other) (Some (length old.places)) (offset_of old other) t))
      | inr f ↦ inr (f, sym (adds.offsets other ∙ cond-false (pair_eq pair other) (Some (length old.places)) (offset_of old other) f) ∙ h)
    ]

pub added_kept : {P : Type 0} (pair : Pair) (old new : MapRows P) → AddsRow pair old new → IsKept old → IsKept new
added_kept pair old new adds kept =
    let long : length new.places ≡ length old.places + old.replicas = long_added old new adds.places in
    let n : new.replicas ≡ old.replicas = adds.replicas in
    record {
      some = rw n kept.some;
      most = rw n kept.most;
      blank = adds.blank ∙ kept.blank ∙ ap (λ (k : ℕ). replicate k place.None) (sym n);
      inside = λ other at h.
          elim (offset_cases pair old new adds other at h) [
            | inl e ↦ omega (arith, e.1)
            | inr e ↦ omega (arith, kept.inside other at e.1)
          ];
      aligned = λ other at h.
          rw n (elim (offset_cases pair old new adds other at h) [
            | inl e ↦ rw e.1 kept.whole
            | inr e ↦ kept.aligned other at e.1
          ]);
      whole = rw (n, long) (add-mod_right (length old.places) old.replicas ∙ kept.whole);
      apart = λ first second at there h i f.
          rw n (elim (offset_cases pair old new adds first at h) [
            | inl e ↦
                elim (offset_cases pair old new adds second there i) [
                  | inl d ↦ absurd (true≢false (sym (ap (λ (p : Pair). pair_eq p second) (sym (pair_same pair first e.0)) ∙ d.0) ∙ f))
                  | inr d ↦ let before : there + old.replicas ≤ length old.places = kept.inside second there d.1 in inr (rw e.1 before)
                ]
            | inr e ↦
                elim (offset_cases pair old new adds second there i) [
                  | inl d ↦ let before : at + old.replicas ≤ length old.places = kept.inside first at e.1 in inl (rw d.1 before)
                  | inr d ↦ kept.apart first second at there e.1 d.1 f
                ]
          ]);
    }

-- places without photos that begin no row
pub padded_kept : {P : Type 0} (old new : MapRows P) → SameOffsets old new → new.places ≡ old.places ++ replicate old.replicas place.None → IsKept old → IsKept new
padded_kept old new same e kept =
    let long : length new.places ≡ length old.places + old.replicas = long_added old new e in
    let n : new.replicas ≡ old.replicas = same.replicas in
    record {
      some = rw n kept.some;
      most = rw n kept.most;
      blank = same.blank ∙ kept.blank ∙ ap (λ (k : ℕ). replicate k place.None) (sym n);
      inside = λ pair at h. omega (arith, kept.inside pair at (sym (same.offsets pair) ∙ h));
      aligned = λ pair at h. rw n (kept.aligned pair at (sym (same.offsets pair) ∙ h));
      whole = rw (n, long) (add-mod_right (length old.places) old.replicas ∙ kept.whole);
      apart = λ pair other at there h i f. rw n (kept.apart pair other at there (sym (same.offsets pair) ∙ h) (sym (same.offsets other) ∙ i) f);
    }

-- A PLACE IS SET

row_set_apart : {P : Type 0} (old new : MapRows P) (at r : ℕ) (y : Place P) → new.replicas ≡ old.replicas → new.places ≡ set old.places (at + r) y → r < old.replicas → (o : Option ℕ)
    → ((there : ℕ) → o ≡ Some there → Apart old.replicas at there) → row_from new o ≡ row_from old o
row_set_apart old new at r y n e h None apart = ap (λ (k : ℕ). replicate k place.None) n
row_set_apart old new at r y n e h (Some there) apart =
    ap (λ (k : ℕ). take k (drop there new.places)) n
    ∙ ap (λ (xs : List (Place _)). take old.replicas (drop there xs)) e
    ∙ part-set_apart old.replicas at there r old.places y h (apart there refl)

pub set_rows : {P : Type 0} (pair : Pair) (at r : ℕ) (y : Place P) (old new : MapRows P) → SameOffsets old new → offset_of old pair ≡ Some at → new.places ≡ set old.places (at + r) y
    → r < old.replicas → IsKept old → SetsPlace pair r y old new
unfolding row_at
set_rows {P} pair at r y old new same is e h kept = record {
  replicas = same.replicas;
  rows = λ other.
      elim (cases_Bool (pair_eq pair other)) [
        | inl t ↦
            let here : offset_of old other ≡ Some at = ap (offset_of old) (sym (pair_same pair other t)) ∙ is in
            ap (row_from new) (same.offsets other ∙ here)
            ∙ ap (λ (k : ℕ). take k (drop at new.places)) same.replicas
            ∙ ap (λ (xs : List (Place P)). take old.replicas (drop at xs)) e
            ∙ part-set_here old.replicas at r old.places y h
            ∙ ap (λ (o : Option ℕ). set (row_from old o) r y) (sym here)
            ∙ sym (cond-true (pair_eq pair other) (set (row_from old (offset_of old other)) r y) (row_from old (offset_of old other)) t)
        | inr f ↦
            ap (row_from new) (same.offsets other)
            ∙ row_set_apart old new at r y same.replicas e h (offset_of old other) (λ there i. kept.apart pair other at there is i f)
            ∙ sym (cond-false (pair_eq pair other) (set (row_from old (offset_of old other)) r y) (row_from old (offset_of old other)) f)
      ];
  known = known_same old new same;
}

-- A REPLICA IS LEFT

step_in : (n at k : ℕ) → at % n ≡ 0 → k < n → (at + k) % n ≡ k
step_in n at k aligned h =
    let parts : at ≡ n * (at / n) = omega (arith, div-add-mod at n) in
    let turned : at + k ≡ k + n * (at / n) = omega arith in
    ap (λ (i : ℕ). i % n) turned ∙ add-mul-mod_self_left k n (at / n) ∙ mod-eq_of_lt h

-- each place of the replica is left
abbrev pub LeftEach : {P : Type 0} → ℕ → ℕ → List (Place P) → List (Place P) → Type 0
LeftEach replicas r old new = (k : ℕ) → place_in new k ≡ cond (nat_eq (k % replicas) r) (gone_place (place_in old k)) (place_in old k)

part_left_at : {P : Type 0} (n at r : ℕ) (old new : List (Place P)) → LeftEach n r old new → at % n ≡ 0 → r < n → at + n ≤ length old → (k : ℕ) → k < n
    → get_or (take n (drop at new)) k place.None ≡ get_or (set (take n (drop at old)) r (gone_place (place_in (take n (drop at old)) r))) k place.None
part_left_at {P} n at r old new left aligned h inside k under =
    let part : List (Place P) = take n (drop at old) in
    let read : (i : ℕ) → i < n → get_or part i place.None ≡ get_or old (at + i) place.None = λ i less. get_or-take n (drop at old) i place.None less ∙ get_or-drop at old i place.None in
    let now : get_or (take n (drop at new)) k place.None ≡ get_or new (at + k) place.None = get_or-take n (drop at new) k place.None under ∙ get_or-drop at new k place.None in
    let long : length part ≡ n = part-length n at old inside in
    now ∙ left (at + k)
    ∙ elim (cases_eq k r) [
      | inl e ↦
          let there : r < length part = omega arith in
          cond-true (nat_eq ((at + k) % n) r) (gone_place (place_in old (at + k))) (place_in old (at + k)) (eq-eqb ((at + k) % n) r (step_in n at k aligned under ∙ e))
          ∙ ap gone_place (sym (read k under))
          ∙ ap (λ (i : ℕ). gone_place (get_or part i place.None)) e
          ∙ sym (get_or-set_same part r (gone_place (place_in part r)) place.None there)
          ∙ ap (λ (i : ℕ). get_or (set part r (gone_place (place_in part r))) i place.None) (sym e)
      | inr ne ↦
          cond-false (nat_eq ((at + k) % n) r) (gone_place (place_in old (at + k))) (place_in old (at + k)) (ne_eqb ((at + k) % n) r (λ e. ne (sym (step_in n at k aligned under) ∙ e)))
          ∙ sym (read k under)
          ∙ sym (get_or-set_other part r k (gone_place (place_in part r)) place.None ne)
    ]

row_left : {P : Type 0} (r : ℕ) (old new : MapRows P) → new.replicas ≡ old.replicas → length new.places ≡ length old.places → LeftEach old.replicas r old.places new.places → r < old.replicas
    → (o : Option ℕ) → ((at : ℕ) → o ≡ Some at → (at + old.replicas ≤ length old.places) × (at % old.replicas ≡ 0))
    → row_from new o ≡ set (row_from old o) r (gone_place (place_in (row_from old o) r))
row_left {P} r old new n same left h None facts =
    let rep : List (Place P) = replicate old.replicas place.None in
    let none : get_or rep r place.None ≡ place.None = get_or-replicate old.replicas r place.None place.None h in
    ap (λ (k : ℕ). replicate k place.None) n
    ∙ sym (set-get_or rep r place.None)
    ∙ ap (λ (y : Place P). set rep r y) (none ∙ sym (ap gone_place none))
row_left {P} r old new n same left h (Some at) facts =
    let part : List (Place P) = take old.replicas (drop at old.places) in
    let inside : at + old.replicas ≤ length old.places = (facts at refl).0 in
    let inside_new : at + old.replicas ≤ length new.places = rw same inside in
    let long : length (take old.replicas (drop at new.places)) ≡ old.replicas = part-length old.replicas at new.places inside_new in
    let long_old : length part ≡ old.replicas = part-length old.replicas at old.places inside in
    ap (λ (k : ℕ). take k (drop at new.places)) n
    ∙ ext_get_or place.None (take old.replicas (drop at new.places)) (set part r (gone_place (place_in part r)))
    (long ∙ sym (length-set part r (gone_place (place_in part r)) ∙ long_old))
    (λ k under. part_left_at old.replicas at r old.places new.places left (facts at refl).1 h inside k (omega arith))

pub left_rows : {P : Type 0} (r : ℕ) (old new : MapRows P) → SameOffsets old new → length new.places ≡ length old.places → LeftEach old.replicas r old.places new.places → r < old.replicas → IsKept old
    → LeavesReplica r old new
unfolding row_at
left_rows r old new same long left h kept = record {
  replicas = same.replicas;
  long = row_long old kept;
  rows = λ other.
      ap (row_from new) (same.offsets other)
      ∙ row_left r old new same.replicas long left h (offset_of old other) (λ at is. (kept.inside other at is, kept.aligned other at is));
  known = known_same old new same;
}

-- ROOM

pub room_spare : {P : Type 0} (rows : MapRows P) → HasRoom rows → (1 ≤ rows.spare_offsets) × (rows.replicas ≤ rows.spare_places)
unfolding HasRoom
room_spare rows room = room

pub spare_room : {P : Type 0} (rows : MapRows P) → 1 ≤ rows.spare_offsets → rows.replicas ≤ rows.spare_places → HasRoom rows
unfolding HasRoom
spare_room rows offsets places = (offsets, places)

-- A ROW IS READ

pub row_some : {P : Type 0} (rows : MapRows P) (pair : Pair) (at : ℕ) → offset_of rows pair ≡ Some at → row_at rows pair ≡ take rows.replicas (drop at rows.places)
unfolding row_at
row_some rows pair at is = ap (row_from rows) is

pub row_blank : {P : Type 0} (rows : MapRows P) (pair : Pair) → offset_of rows pair ≡ None → row_at rows pair ≡ replicate rows.replicas place.None
unfolding row_at
row_blank rows pair is = ap (row_from rows) is

pub unknown : {P : Type 0} (rows : MapRows P) (pair : Pair) → has_row rows pair ≡ true → offset_of rows pair ≡ None → ⊥
unfolding has_row
unknown rows pair has is = false≢true (sym (ap is_some is) ∙ has)

pub known_some : {P : Type 0} (rows : MapRows P) (pair : Pair) (at : ℕ) → offset_of rows pair ≡ Some at → has_row rows pair ≡ true
unfolding has_row
known_some rows pair at is = ap is_some is

none_from : (o : Option ℕ) → is_some o ≡ false → o ≡ None
none_from None e = refl
none_from (Some at) e = absurd (true≢false e)

pub unknown_none : {P : Type 0} (rows : MapRows P) (pair : Pair) → has_row rows pair ≡ false → offset_of rows pair ≡ None
unfolding has_row
unknown_none rows pair f = none_from (offset_of rows pair) f

pub has_row_is : {P : Type 0} (rows : MapRows P) (pair : Pair) → has_row rows pair ≡ is_some (offset_of rows pair)
unfolding has_row
has_row_is rows pair = refl

pub keeps_keeps : {P : Type 0} (first second third : MapRows P) → KeepsRows first second → KeepsRows second third → KeepsRows first third
keeps_keeps first second third a b = record {
  replicas = b.replicas ∙ a.replicas;
  rows = λ pair. b.rows pair ∙ a.rows pair;
  known = λ pair h. b.known pair (a.known pair h);
}

pub keeps_itself : {P : Type 0} (rows : MapRows P) → KeepsRows rows rows
keeps_itself rows = record { replicas = refl; rows = λ pair. refl; known = λ pair h. h }

-- no rows
pub kept_none : {P : Type 0} (rows : MapRows P) → 1 ≤ rows.replicas → rows.replicas ≤ 4 → rows.blank ≡ replicate rows.replicas place.None → rows.offsets ≡ [] → rows.places ≡ [] → IsKept rows
kept_none rows some most blank offsets places =
    let none : (pair : Pair) (at : ℕ) → offset_of rows pair ≡ Some at → ⊥ = λ pair at is.
    false≢true (ap is_some (sym (ap (λ (entries : List ((ℕ × ℕ) × ℕ)). lookup (has_key pair) entries) offsets) ∙ is)) in
    let long : length rows.places ≡ 0 = ap length places in
    let zero_whole : 0 % rows.replicas ≡ 0 = mod-eq_of_lt some in
    record {
      some = some;
      most = most;
      blank = blank;
      inside = λ pair at is. absurd (none pair at is);
      aligned = λ pair at is. absurd (none pair at is);
      whole = ap (λ (k : ℕ). k % rows.replicas) long ∙ zero_whole;
      apart = λ pair other at there is i f. absurd (none pair at is);
    }
