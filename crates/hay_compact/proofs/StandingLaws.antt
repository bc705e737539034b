-- The last cells of pairs.
use Rattle.std.proofs.Common.{◌≡◌, Bool, true, false, cond, Option, List, Some, None, refl, sym, ◌∙◌, ap}
use Rattle.std.specs.Prelude.{unwrap_or, is_some, option_map}
use Rattle.std.specs.BTreeMap.{is_at}
use Rattle.std.specs.Map.{lookup}
use Rattle.std.specs.Ordering.{is_eq}
use Rattle.hay_needle.specs.declared.needle.Cell.{Cell}
use Rattle.hay_needle.specs.declared.needle.Pair.{Pair}
use Rattle.hay_needle.specs.Tables.{pair_cmp, pair_eq}
use Rattle.hay_needle.proofs.TableLaws.{pair_same, pair_tied}
use Rattle.hay_compact.specs.declared.standing.LastCell.{LastCell}
use Rattle.hay_compact.specs.Copying.{kept_cell, photo_place}
use Rattle.hay_compact.specs.Standing.{LastCells, last_in, place_in, standing_at}

-- where what is kept is a pair's last cell, the place is that of its photo
pub place_kept : (cells : LastCells) (pair : Pair) (o : Option Cell) → last_in cells pair ≡ option_map kept_cell o → place_in cells pair ≡ photo_place o
unfolding place_in
place_kept cells pair o is = ap standing_at is ∙ by_cell o
  where
    by_cell : (o : Option Cell) → standing_at (option_map kept_cell o) ≡ photo_place o
    by_cell None = refl
    by_cell (Some cell) = refl

none_there : (o : Option (Option LastCell)) → is_some o ≡ false → o ≡ None
none_there None is = refl
none_there (Some last) is = cc

vacant : (was now : Option (Option LastCell)) (here : Bool) → now ≡ cond here (Some None) was → (here ≡ true → was ≡ None) → unwrap_or now None ≡ unwrap_or was None
vacant was now true is none = ap (λ (o : Option (Option LastCell)). unwrap_or o None) is ∙ sym (ap (λ (o : Option (Option LastCell)). unwrap_or o None) (none refl))
vacant was now false is none = ap (λ (o : Option (Option LastCell)). unwrap_or o None) is

-- a pair that had no entry gets one without a cell
pub room_made : (old m n : List (Pair × Option LastCell)) (pair other : Pair) → old ≡ m → is_some (lookup (is_at (pair_cmp pair)) m) ≡ false
    → lookup (is_at (pair_cmp other)) n ≡ cond (is_eq (pair_cmp pair other)) (Some None) (lookup (is_at (pair_cmp other)) m)
    → unwrap_or (lookup (is_at (pair_cmp other)) n) None ≡ unwrap_or (lookup (is_at (pair_cmp other)) old) None
room_made old m n pair other same absent is =
    vacant (lookup (is_at (pair_cmp other)) m) (lookup (is_at (pair_cmp other)) n) (is_eq (pair_cmp pair other)) is
    (λ here. ap (λ (p : Pair). lookup (is_at (pair_cmp p)) m) (sym (pair_same pair other (sym (pair_tied pair other) ∙ here))) ∙ none_there (lookup (is_at (pair_cmp pair)) m) absent)
    ∙ ap (λ (l : List (Pair × Option LastCell)). unwrap_or (lookup (is_at (pair_cmp other)) l) None) (sym same)

-- what is kept after a last cell was set
pub last_set : (old m n : List (Pair × Option LastCell)) (pair other : Pair) (last : Option LastCell) → old ≡ m
    → lookup (is_at (pair_cmp other)) n ≡ cond (is_eq (pair_cmp pair other)) (Some last) (lookup (is_at (pair_cmp other)) m)
    → unwrap_or (lookup (is_at (pair_cmp other)) n) None ≡ cond (pair_eq pair other) last (unwrap_or (lookup (is_at (pair_cmp other)) old) None)
last_set old m n pair other last same is =
    ap (λ (o : Option (Option LastCell)). unwrap_or o None) is
    ∙ by_test (is_eq (pair_cmp pair other))
    ∙ ap (λ (b : Bool). cond b last (unwrap_or (lookup (is_at (pair_cmp other)) m) None)) (pair_tied pair other)
    ∙ ap (λ (l : List (Pair × Option LastCell)). cond (pair_eq pair other) last (unwrap_or (lookup (is_at (pair_cmp other)) l) None)) (sym same)
  where
    by_test : (b : Bool) → unwrap_or (cond b (Some last) (lookup (is_at (pair_cmp other)) m)) None ≡ cond b last (unwrap_or (lookup (is_at (pair_cmp other)) m) None)
    by_test true = refl
    by_test false = refl
