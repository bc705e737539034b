-- Changes of the rows, one after another.
use Rattle.std.proofs.Common.{◌≡◌, ℕ, zero, suc, ◌+◌, ◌<◌, inl, inr, Bool, true, false, cond, List, [], ◌∷◌, ◌++◌, length, take, drop, map, replicate, set, get_or, refl, sym, ap, ◌∙◌, arith}
use Rattle.std.proofs.lemmas.List.{set-set, set-get_or}
use Rattle.std.proofs.lemmas.Bool.{cases_Bool, cond-true, cond-false}
use Rattle.hay_needle.specs.declared.needle.Pair.{Pair}
use Rattle.hay_needle.specs.Tables.{pair_eq}
use Rattle.hay_needle.proofs.TableLaws.{pair_same}
use Rattle.hay_map.specs.MapRows.{MapRows}
use Rattle.hay_map.specs.Places.{gone_place, place_in}
use Rattle.hay_map.specs.Rows.{row_at, has_row, last_place, AllKnown, KeepsRows, ChangesRows, SetsPlace, SetsRow, GivesReplica}
use Rattle.hay_map.specs.declared.place.Place.{Place}
use Rattle.hay_map.specs.declared.place.Place.TheVariants as place
use Rattle.hay_map.specs.declared.view.OpenCell.{OpenCell}
use Rattle.hay_map.specs.declared.view.MapOp.TheVariants as op
use Rattle.hay_map.proofs.Lists.{set_next, set_through}

-- KNOWN PAIRS

pub all_known : {P : Type 0} (old new : MapRows P) → ((pair : Pair) → has_row old pair ≡ true → has_row new pair ≡ true) → (cells : List (OpenCell P)) → AllKnown old cells → AllKnown new cells
all_known old new known [] all = tt
all_known old new known (cell ∷ cells) all = (known cell.pair all.0, all_known old new known cells all.1)

pub all_known_push : {P : Type 0} (rows : MapRows P) (cells : List (OpenCell P)) (cell : OpenCell P) → AllKnown rows cells → has_row rows cell.pair ≡ true → AllKnown rows (cells ++ cell ∷ [])
all_known_push rows [] cell all has = (has, tt)
all_known_push rows (first ∷ cells) cell all has = (all.0, all_known_push rows cells cell all.1 has)

pub all_known_at : {P : Type 0} (rows : MapRows P) (cells : List (OpenCell P)) (k : ℕ) (d : OpenCell P) → AllKnown rows cells → k < length cells → has_row rows (get_or cells k d).pair ≡ true
all_known_at rows [] k d all h = absurd (omega arith)
all_known_at rows (cell ∷ cells) zero d all h = all.0
all_known_at rows (cell ∷ cells) (suc k) d all h = all_known_at rows cells k d all.1 (omega arith)

-- CELLS OF A REPLICA

last_place_push : {P : Type 0} (cells : List (OpenCell P)) (cell : OpenCell P) (pair : Pair) (before : Place P)
    → last_place (cells ++ cell ∷ []) pair before ≡ cond (pair_eq cell.pair pair) cell.place (last_place cells pair before)
last_place_push [] cell pair before = refl
last_place_push (first ∷ cells) cell pair before = last_place_push cells cell pair (cond (pair_eq first.pair pair) first.place before)

pub gives_none : {P : Type 0} (replica : ℕ) (rows : MapRows P) → GivesReplica replica [] rows rows
gives_none replica rows = record {
  replicas = refl;
  rows = λ other. sym (set-get_or (row_at rows other) replica place.None);
  known = λ other h. h;
}

pub gives_more : {P : Type 0} (replica : ℕ) (cells : List (OpenCell P)) (cell : OpenCell P) (old mid new : MapRows P) → GivesReplica replica cells old mid
    → SetsPlace cell.pair replica cell.place mid new
    → GivesReplica replica (cells ++ cell ∷ []) old new
gives_more {P} replica cells cell old mid new gives sets = record {
  replicas = sets.replicas ∙ gives.replicas;
  rows = λ other.
      let row : List (Place P) = row_at old other in
      let before : Place P = place_in row replica in
      elim (cases_Bool (pair_eq cell.pair other)) [
        | inl t ↦
            sets.rows other
            ∙ cond-true (pair_eq cell.pair other) (set (row_at mid other) replica cell.place) (row_at mid other) t
            ∙ ap (λ (xs : List (Place P)). set xs replica cell.place) (gives.rows other)
            ∙ set-set row replica (last_place cells other before) cell.place
            ∙ ap (λ (y : Place P). set row replica y) (sym (last_place_push cells cell other before ∙ cond-true (pair_eq cell.pair other) cell.place (last_place cells other before) t))
        | inr f ↦
            sets.rows other
            ∙ cond-false (pair_eq cell.pair other) (set (row_at mid other) replica cell.place) (row_at mid other) f
            ∙ gives.rows other
            ∙ ap (λ (y : Place P). set row replica y) (sym (last_place_push cells cell other before ∙ cond-false (pair_eq cell.pair other) cell.place (last_place cells other before) f))
      ];
  known = λ other h. sets.known other ∙ gives.known other h;
}

-- A ROW

-- the places of the first k replicas of a pair are set
pub record SetsFirst {P : Type 0} (pair : Pair) (row : List (Place P)) (k : ℕ) (old new : MapRows P) : Type 0 where
  pub replicas : new.replicas ≡ old.replicas
  pub rows : (other : Pair) → row_at new other ≡ cond (pair_eq pair other) (take k row ++ drop k (row_at old other)) (row_at old other)
  pub known : (other : Pair) → has_row new other ≡ has_row old other
  pub long : (other : Pair) → length (row_at old other) ≡ old.replicas

same_cond : {X : Type 0} (b : Bool) (x : X) → x ≡ cond b x x
same_cond true x = refl
same_cond false x = refl

pub first_none : {P : Type 0} (pair : Pair) (row : List (Place P)) (rows : MapRows P) → ((other : Pair) → length (row_at rows other) ≡ rows.replicas) → SetsFirst pair row 0 rows rows
first_none pair row rows long = record {
  replicas = refl;
  rows = λ other. same_cond (pair_eq pair other) (row_at rows other);
  known = λ other. refl;
  long = long;
}

pub first_more : {P : Type 0} (pair : Pair) (row : List (Place P)) (k : ℕ) (old mid new : MapRows P) → SetsFirst pair row k old mid → k < length row → length row ≡ old.replicas
    → SetsPlace pair k (get_or row k place.None) mid new
    → SetsFirst pair row (k + 1) old new
first_more {P} pair row k old mid new first h same sets = record {
  replicas = sets.replicas ∙ first.replicas;
  rows = λ other.
      let before : List (Place P) = row_at old other in
      let now : List (Place P) = row_at mid other in
      let y : Place P = get_or row k place.None in
      elim (cases_Bool (pair_eq pair other)) [
        | inl t ↦
            sets.rows other
            ∙ cond-true (pair_eq pair other) (set now k y) now t
            ∙ ap (λ (xs : List (Place P)). set xs k y) (first.rows other ∙ cond-true (pair_eq pair other) (take k row ++ drop k before) before t)
            ∙ set_next before row k place.None h (first.long other ∙ sym same)
            ∙ sym (cond-true (pair_eq pair other) (take (k + 1) row ++ drop (k + 1) before) before t)
        | inr f ↦
            sets.rows other
            ∙ cond-false (pair_eq pair other) (set now k y) now f
            ∙ first.rows other
            ∙ cond-false (pair_eq pair other) (take k row ++ drop k before) before f
            ∙ sym (cond-false (pair_eq pair other) (take (k + 1) row ++ drop (k + 1) before) before f)
      ];
  known = λ other. sets.known other ∙ first.known other;
  long = first.long;
}

pub first_all : {P : Type 0} (pair : Pair) (row : List (Place P)) (k : ℕ) (old new : MapRows P) → SetsFirst pair row k old new → length row ≡ old.replicas → k ≡ old.replicas → SetsRow pair row old new
first_all {P} pair row k old new first same all = record {
  replicas = first.replicas;
  rows = λ other.
      first.rows other
      ∙ ap (λ (xs : List (Place P)). cond (pair_eq pair other) xs (row_at old other)) (set_through (row_at old other) row k (same ∙ sym all) (first.long other ∙ sym all));
  known = first.known;
}

-- CHANGES

pub put_changes : {P : Type 0} (pair : Pair) (row : List (Place P)) (old mid new : MapRows P) → KeepsRows old mid → SetsRow pair row mid new → ChangesRows (op.Put pair row) old new
put_changes {P} pair row old mid new keeps sets = record {
  replicas = sets.replicas ∙ keeps.replicas;
  rows = λ other. sets.rows other ∙ ap (λ (xs : List (Place P)). cond (pair_eq pair other) row xs) (keeps.rows other);
  known = λ other h. sets.known other ∙ keeps.known other h;
}

pub del_changes : {P : Type 0} (pair : Pair) (old new : MapRows P) → SetsRow pair (map gone_place (row_at old pair)) old new → ChangesRows (op.Del pair) old new
del_changes {P} pair old new sets = record {
  replicas = sets.replicas;
  rows = λ other.
      elim (cases_Bool (pair_eq pair other)) [
        | inl t ↦
            sets.rows other
            ∙ cond-true (pair_eq pair other) (map gone_place (row_at old pair)) (row_at old other) t
            ∙ ap (λ (p : Pair). map gone_place (row_at old p)) (pair_same pair other t)
            ∙ sym (cond-true (pair_eq pair other) (map gone_place (row_at old other)) (row_at old other) t)
        | inr f ↦
            sets.rows other
            ∙ cond-false (pair_eq pair other) (map gone_place (row_at old pair)) (row_at old other) f
            ∙ sym (cond-false (pair_eq pair other) (map gone_place (row_at old other)) (row_at old other) f)
      ];
  known = λ other h. sets.known other ∙ h;
}

gone_none : {P : Type 0} (n : ℕ) → replicate {A = Place P} n place.None ≡ map gone_place (replicate {A = Place P} n place.None)
gone_none zero = refl
gone_none {P} (suc n) = ap (λ (xs : List (Place P)). place.None ∷ xs) (gone_none n)

pub del_nothing : {P : Type 0} (pair : Pair) (rows : MapRows P) → row_at rows pair ≡ replicate rows.replicas place.None → ChangesRows (op.Del pair) rows rows
del_nothing {P} pair rows none = record {
  replicas = refl;
  rows = λ other.
      elim (cases_Bool (pair_eq pair other)) [
        | inl t ↦
            let here : row_at rows other ≡ replicate rows.replicas place.None = ap (row_at rows) (sym (pair_same pair other t)) ∙ none in
            here
            ∙ gone_none rows.replicas
            ∙ ap (map gone_place) (sym here)
            ∙ sym (cond-true (pair_eq pair other) (map gone_place (row_at rows other)) (row_at rows other) t)
        | inr f ↦ sym (cond-false (pair_eq pair other) (map gone_place (row_at rows other)) (row_at rows other) f)
      ];
  known = λ other h. h;
}

pub load_gives : {P : Type 0} (replica : ℕ) (cells : List (OpenCell P)) (old mid new : MapRows P) → KeepsRows old mid → GivesReplica replica cells mid new → GivesReplica replica cells old new
load_gives {P} replica cells old mid new keeps gives = record {
  replicas = gives.replicas ∙ keeps.replicas;
  rows = λ other. gives.rows other ∙ ap (λ (xs : List (Place P)). set xs replica (last_place cells other (place_in xs replica))) (keeps.rows other);
  known = λ other h. gives.known other (keeps.known other h);
}

pub see_changes : {P : Type 0} (pair : Pair) (replica : ℕ) (place : Place P) (old mid new : MapRows P) → KeepsRows old mid → SetsPlace pair replica place mid new
    → ChangesRows (op.Seen pair replica place) old new
see_changes {P} pair replica place old mid new keeps sets = record {
  replicas = sets.replicas ∙ keeps.replicas;
  rows = λ other. sets.rows other ∙ ap (λ (xs : List (Place P)). cond (pair_eq pair other) (set xs replica place) xs) (keeps.rows other);
  known = λ other h. sets.known other ∙ keeps.known other h;
}
