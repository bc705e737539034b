-- What changes make of the rows of a map.
use Rattle.std.proofs.Common.{◌≡◌, ℕ, true, false, List, [], ◌∷◌, ◌++◌, refl, sym, ap, subst, ◌∙◌, rules}
use Rattle.std.specs.Prelude.{fold}
use Rattle.std.specs.List.{AllByRecursion}
use Rattle.std.proofs.lemmas.Bool.{cond-true, cond-false}
use Rattle.hay_needle.specs.declared.needle.Pair.{Pair}
use Rattle.hay_map.specs.MapRows.{MapRows}
use Rattle.hay_map.specs.Rows.{row_at, changed_row, ChangesRows, FitsRows, KeepsRows}
use Rattle.hay_map.specs.declared.place.Place.{Place}
use Rattle.hay_map.specs.declared.view.MapOp.{MapOp}
use Rattle.hay_map.specs.declared.view.MapOp.TheVariants as op
use Rattle.hay_views.specs.MapPasts.{MapPast, IsMapOf, MadeBy, fits, row_after, row_of, with_change}

-- A CHANGE

pub fitting : {P : Type 0} (n : ℕ) (change : MapOp P) → fits n change ≡ true → FitsRows n change
fitting n (op.Put pair row) e = search rules
fitting n (op.Del pair) e = tt
fitting n (op.Seen pair replica place) e = search rules
fitting n (op.Swap replica cells) e = search rules

pub fits_from : {P : Type 0} (n : ℕ) (change : MapOp P) → FitsRows n change → fits n change ≡ true
fits_from n (op.Put pair row) h = search rules
fits_from n (op.Del pair) h = refl
fits_from n (op.Seen pair replica place) h = search rules
fits_from n (op.Swap replica cells) h = search rules

fold_more : {X A : Type 0} (f : A → X → A) (a : A) (xs : List X) (x : X) → fold f a (xs ++ x ∷ []) ≡ f (fold f a xs) x
fold_more f a [] x = refl
fold_more f a (y ∷ xs) x = fold_more f (f a y) xs x

row_more : {P S : Type 0} (past : MapPast P S) (change : MapOp P) (pair : Pair) → row_of (with_change past change) pair ≡ row_after (past.first).replicas pair (row_of past pair) change
row_more past change pair = fold_more (row_after (past.first).replicas pair) (row_at past.first pair) past.made change

pub map_changed : {P S : Type 0} (past : MapPast P S) (change : MapOp P) (old new : MapRows P) → IsMapOf past old → fits old.replicas change ≡ true → ChangesRows change old new
    → IsMapOf (with_change past change) new
map_changed {P} {S} past change old new is e changes = record {
  replicas = changes.replicas ∙ is.replicas;
  rows = λ pair.
      changes.rows pair ∙ ap (λ (row : List (Place P)). changed_row change pair row) (is.rows pair)
      ∙ sym (row_more past change pair ∙ cond-true (fits (past.first).replicas change) (changed_row change pair (row_of past pair)) (row_of past pair)
      (ap (λ (n : ℕ). fits n change) (sym is.replicas) ∙ e));
}

pub map_kept : {P S : Type 0} (past : MapPast P S) (old new : MapRows P) → IsMapOf past old → KeepsRows old new → IsMapOf past new
map_kept past old new is keeps = record { replicas = keeps.replicas ∙ is.replicas; rows = λ pair. keeps.rows pair ∙ is.rows pair }

pub map_unfit : {P S : Type 0} (past : MapPast P S) (change : MapOp P) (map : MapRows P) → IsMapOf past map → fits map.replicas change ≡ false → IsMapOf (with_change past change) map
map_unfit past change map is e = record {
  replicas = is.replicas;
  rows = λ pair.
      is.rows pair
      ∙ sym (row_more past change pair ∙ cond-false (fits (past.first).replicas change) (changed_row change pair (row_of past pair)) (row_of past pair)
      (ap (λ (n : ℕ). fits n change) (sym is.replicas) ∙ e));
}

-- CHANGES, ONE AFTER ANOTHER

pub made_count : {P : Type 0} (changes : List (MapOp P)) (first now : MapRows P) → MadeBy changes first now → now.replicas ≡ first.replicas
made_count [] first now made = made.replicas
made_count (change ∷ changes) first now made = made_count changes made.0 now made.2 ∙ (made.1).replicas

-- the row of a map on which fitting changes were made is what the changes make of its first row
pub made_row : {P : Type 0} (changes : List (MapOp P)) (first now : MapRows P) (pair : Pair) → AllByRecursion (FitsRows first.replicas) changes → MadeBy changes first now
    → row_at now pair ≡ fold (row_after first.replicas pair) (row_at first pair) changes
made_row [] first now pair fit made = made.rows pair
made_row {P} (change ∷ changes) first now pair fit made =
    let mid : MapRows P = made.0 in
    let step : ChangesRows change first mid = made.1 in
    let rest : AllByRecursion (FitsRows mid.replicas) changes = subst (λ (n : ℕ). AllByRecursion (FitsRows n) changes) (sym step.replicas) fit.1 in
    let here : row_at mid pair ≡ row_after first.replicas pair (row_at first pair) change =
    step.rows pair ∙ sym (cond-true (fits first.replicas change) (changed_row change pair (row_at first pair)) (row_at first pair) (fits_from first.replicas change fit.0)) in
    made_row changes mid now pair rest made.2
    ∙ ap (λ (n : ℕ). fold (row_after n pair) (row_at mid pair) changes) step.replicas
    ∙ ap (λ (row : List (Place P)). fold (row_after first.replicas pair) row changes) here
