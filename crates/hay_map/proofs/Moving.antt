-- The photos of a replica move, one after another.
use Rattle.std.proofs.Common.{◌≡◌, ℕ, suc, ◌<◌, inl, inr, true, false, cond, List, [], ◌∷◌, ◌++◌, length, All, set, refl, sym, ap, ◌∙◌, arith}
use Rattle.std.proofs.lemmas.List.{set-set, set-get_or, get_or-set_same, get_or-replicate, length-set}
use Rattle.std.proofs.lemmas.Bool.{cases_Bool, cond-true, cond-false, true≢false, false≢true}
use Rattle.hay_needle.specs.declared.needle.Pair.{Pair}
use Rattle.hay_needle.specs.Tables.{pair_eq}
use Rattle.hay_needle.proofs.TableLaws.{pair_same}
use Rattle.hay_map.specs.MapRows.{MapRows}
use Rattle.hay_map.specs.Places.{gone_place, has_stood, moved_place, place_in}
use Rattle.hay_map.specs.Rows.{row_at, has_row, last_place, swapped_place, ChangesRows, LeavesReplica, MovesPlace, MovesReplica, SetsPlace}
use Rattle.hay_map.specs.declared.place.Place.{Place}
use Rattle.hay_map.specs.declared.place.Place.TheVariants as place
use Rattle.hay_map.specs.declared.view.OpenCell.{OpenCell}
use Rattle.hay_map.specs.declared.view.MapOp.TheVariants as op
use Rattle.hay_map.proofs.RowLaws.{row_blank, unknown_none}

-- A PLACE

moved_stood : {P : Type 0} (before there : Place P) → has_stood before ≡ true → moved_place before there ≡ there
moved_stood place.None there h = absurd (false≢true h)
moved_stood (place.Live needle) there h = refl
moved_stood place.Gone there h = refl
moved_stood (place.Unseen at size) there h = refl

never_stood : {P : Type 0} (before : Place P) → has_stood before ≡ false → before ≡ place.None
never_stood place.None h = refl
never_stood (place.Live needle) h = absurd (true≢false h)
never_stood place.Gone h = absurd (true≢false h)
never_stood (place.Unseen at size) h = absurd (true≢false h)

-- a pair without a row has no place
pub stood_known : {P : Type 0} (rows : MapRows P) (pair : Pair) (r : ℕ) → r < rows.replicas → has_stood (place_in (row_at rows pair) r) ≡ true → has_row rows pair ≡ true
stood_known {P} rows pair r h stood =
    elim (cases_Bool (has_row rows pair)) [
      | inl t ↦ t
      | inr f ↦
          let blank : place_in (row_at rows pair) r ≡ place.None =
          ap (λ (xs : List (Place P)). place_in xs r) (row_blank rows pair (unknown_none rows pair f)) ∙ get_or-replicate rows.replicas r place.None place.None h in
          absurd (false≢true (sym (ap has_stood blank) ∙ stood))
    ]

-- it is set where one stood
pub moves_set : {P : Type 0} (pair : Pair) (r : ℕ) (there : Place P) (old new : MapRows P) → SetsPlace pair r there old new → has_stood (place_in (row_at old pair) r) ≡ true
    → MovesPlace pair r there old new
moves_set {P} pair r there old new sets stood = record {
  replicas = sets.replicas;
  rows = λ other.
      elim (cases_Bool (pair_eq pair other)) [
        | inl t ↦
            let here : has_stood (place_in (row_at old other) r) ≡ true = ap (λ (p : Pair). has_stood (place_in (row_at old p) r)) (sym (pair_same pair other t)) ∙ stood in
            sets.rows other
            ∙ cond-true (pair_eq pair other) (set (row_at old other) r there) (row_at old other) t
            ∙ ap (λ (y : Place P). set (row_at old other) r y) (sym (moved_stood (place_in (row_at old other) r) there here))
            ∙ sym (cond-true (pair_eq pair other) (set (row_at old other) r (moved_place (place_in (row_at old other) r) there)) (row_at old other) t)
        | inr f ↦
            sets.rows other
            ∙ cond-false (pair_eq pair other) (set (row_at old other) r there) (row_at old other) f
            ∙ sym (cond-false (pair_eq pair other) (set (row_at old other) r (moved_place (place_in (row_at old other) r) there)) (row_at old other) f)
      ];
  known = sets.known;
}

-- and else it stays
pub moves_nothing : {P : Type 0} (pair : Pair) (r : ℕ) (there : Place P) (rows : MapRows P) → has_stood (place_in (row_at rows pair) r) ≡ false → MovesPlace pair r there rows rows
moves_nothing {P} pair r there rows never = record {
  replicas = refl;
  rows = λ other.
      elim (cases_Bool (pair_eq pair other)) [
        | inl t ↦
            let none : place_in (row_at rows other) r ≡ place.None = ap (λ (p : Pair). place_in (row_at rows p) r) (sym (pair_same pair other t)) ∙ never_stood (place_in (row_at rows pair) r) never in
            sym (set-get_or (row_at rows other) r place.None)
            ∙ ap (λ (y : Place P). set (row_at rows other) r y) (none ∙ sym (ap (λ (y : Place P). moved_place y there) none))
            ∙ sym (cond-true (pair_eq pair other) (set (row_at rows other) r (moved_place (place_in (row_at rows other) r) there)) (row_at rows other) t)
        | inr f ↦ sym (cond-false (pair_eq pair other) (set (row_at rows other) r (moved_place (place_in (row_at rows other) r) there)) (row_at rows other) f)
      ];
  known = λ other. refl;
}

-- THE CELLS

swapped_push : {P : Type 0} (cells : List (OpenCell P)) (cell : OpenCell P) (pair : Pair) (before : Place P)
    → swapped_place (cells ++ cell ∷ []) pair before ≡ cond (pair_eq cell.pair pair) (moved_place (swapped_place cells pair before) cell.place) (swapped_place cells pair before)
swapped_push [] cell pair before = refl
swapped_push (first ∷ cells) cell pair before = swapped_push cells cell pair (cond (pair_eq first.pair pair) (moved_place before first.place) before)

pub moves_none : {P : Type 0} (r : ℕ) (rows : MapRows P) → MovesReplica r [] rows rows
moves_none r rows = record {
  replicas = refl;
  rows = λ other. sym (set-get_or (row_at rows other) r place.None);
  known = λ other. refl;
}

pub moves_more : {P : Type 0} (r : ℕ) (cells : List (OpenCell P)) (cell : OpenCell P) (old mid new : MapRows P) → MovesReplica r cells old mid → r < old.replicas
    → ((other : Pair) → length (row_at old other) ≡ old.replicas) → MovesPlace cell.pair r cell.place mid new → MovesReplica r (cells ++ cell ∷ []) old new
moves_more {P} r cells cell old mid new moves h long one = record {
  replicas = one.replicas ∙ moves.replicas;
  rows = λ other.
      let row : List (Place P) = row_at old other in
      let now : List (Place P) = row_at mid other in
      let before : Place P = place_in row r in
      let so_far : Place P = swapped_place cells other before in
      elim (cases_Bool (pair_eq cell.pair other)) [
        | inl t ↦
            let within : r < length row = omega (arith, long other) in
            let here : place_in now r ≡ so_far = ap (λ (xs : List (Place P)). place_in xs r) (moves.rows other) ∙ get_or-set_same row r so_far place.None within in
            one.rows other
            ∙ cond-true (pair_eq cell.pair other) (set now r (moved_place (place_in now r) cell.place)) now t
            ∙ ap (λ (y : Place P). set now r (moved_place y cell.place)) here
            ∙ ap (λ (xs : List (Place P)). set xs r (moved_place so_far cell.place)) (moves.rows other)
            ∙ set-set row r so_far (moved_place so_far cell.place)
            ∙ ap (λ (y : Place P). set row r y) (sym (swapped_push cells cell other before ∙ cond-true (pair_eq cell.pair other) (moved_place so_far cell.place) so_far t))
        | inr f ↦
            one.rows other
            ∙ cond-false (pair_eq cell.pair other) (set now r (moved_place (place_in now r) cell.place)) now f
            ∙ moves.rows other
            ∙ ap (λ (y : Place P). set row r y) (sym (swapped_push cells cell other before ∙ cond-false (pair_eq cell.pair other) (moved_place so_far cell.place) so_far f))
      ];
  known = λ other. one.known other ∙ moves.known other;
}

-- each row stays as long
pub left_long : {P : Type 0} (r : ℕ) (old left : MapRows P) → LeavesReplica r old left → (other : Pair) → length (row_at left other) ≡ left.replicas
left_long r old left leaves other =
    ap length (leaves.rows other) ∙ length-set (row_at old other) r (gone_place (place_in (row_at old other) r)) ∙ leaves.long other ∙ sym leaves.replicas

pub swap_changes : {P : Type 0} (r : ℕ) (cells : List (OpenCell P)) (old left new : MapRows P) → LeavesReplica r old left → MovesReplica r cells left new → r < old.replicas
    → ChangesRows (op.Swap r cells) old new
swap_changes {P} r cells old left new leaves moves h = record {
  replicas = moves.replicas ∙ leaves.replicas;
  rows = λ other.
      let row : List (Place P) = row_at old other in
      let gone : Place P = gone_place (place_in row r) in
      let inside : r < length row = omega (arith, leaves.long other) in
      moves.rows other
      ∙ ap (λ (xs : List (Place P)). set xs r (swapped_place cells other (place_in xs r))) (leaves.rows other)
      ∙ set-set row r gone (swapped_place cells other (place_in (set row r gone) r))
      ∙ ap (λ (y : Place P). set row r (swapped_place cells other y)) (get_or-set_same row r gone place.None inside);
  known = λ other had. moves.known other ∙ leaves.known other ∙ had;
}

-- WHAT A SWAP MAKES OF A PLACE

-- a pair that never had a photo on the replica gets none
pub swapped_none : {P : Type 0} (cells : List (OpenCell P)) (pair : Pair) → swapped_place cells pair place.None ≡ place.None
swapped_none [] pair = refl
swapped_none {P} (cell ∷ cells) pair =
    elim (cases_Bool (pair_eq cell.pair pair)) [
      | inl t ↦ ap (swapped_place cells pair) (cond-true (pair_eq cell.pair pair) place.None place.None t) ∙ swapped_none cells pair
      | inr f ↦ ap (swapped_place cells pair) (cond-false (pair_eq cell.pair pair) place.None place.None f) ∙ swapped_none cells pair
    ]

-- any other one has the place of its last cell
pub swapped_last : {P : Type 0} (cells : List (OpenCell P)) (pair : Pair) (before : Place P) → has_stood before ≡ true → All (λ (cell : OpenCell P). has_stood cell.place ≡ true) cells
    → swapped_place cells pair before ≡ last_place cells pair before
swapped_last [] pair before stood all = refl
swapped_last {P} (cell ∷ cells) pair before stood all =
    let first : has_stood cell.place ≡ true = all 0 cell (omega arith) in
    let others : All (λ (one : OpenCell P). has_stood one.place ≡ true) cells = λ k d h. all (suc k) d (omega arith) in
    elim (cases_Bool (pair_eq cell.pair pair)) [
      | inl t ↦
          ap (swapped_place cells pair) (cond-true (pair_eq cell.pair pair) (moved_place before cell.place) before t ∙ moved_stood before cell.place stood)
          ∙ swapped_last cells pair cell.place first others
          ∙ ap (last_place cells pair) (sym (cond-true (pair_eq cell.pair pair) cell.place before t))
      | inr f ↦
          ap (swapped_place cells pair) (cond-false (pair_eq cell.pair pair) (moved_place before cell.place) before f)
          ∙ swapped_last cells pair before stood others
          ∙ ap (last_place cells pair) (sym (cond-false (pair_eq cell.pair pair) cell.place before f))
    ]
