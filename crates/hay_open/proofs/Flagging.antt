-- Needles that were found, and the records that they have.
use Rattle.std.proofs.Common.{◌≡◌, ℕ, zero, suc, ◌+◌, ◌≤◌, false, List, [], ◌∷◌, ◌++◌, length, map, take, drop, Some, refl, sym, ap, subst, ◌∙◌, arith, append_assoc, take-append-drop}
use Rattle.std.specs.List.{AllByRecursion, slice_get}
use Rattle.hay_disk.specs.Disk.{FileState}
use Rattle.hay_index.specs.declared.record.Record.{Record}
use Rattle.hay_index.specs.Records.{AreInRow, place_behind}
use Rattle.hay_map.specs.declared.place.Place.{Place}
use Rattle.hay_map.specs.declared.place.Place.TheVariants as place
use Rattle.hay_map.specs.declared.view.OpenCell.{OpenCell}
use Rattle.hay_open.specs.Finds.{AddsAt, AreOfRows, ArePlacesWithin, IsOfRow, MayFlagPlace, PlaceWithin, StandsAt, unseen_cell}
use Rattle.hay_open.specs.Listing.{RowFlagsFree}
use Rattle.hay_open.proofs.CellRows.{row_within}

flag_free : (rows : List Record) (i : ℕ) (r : Record) (file : FileState) → RowFlagsFree file rows → slice_get rows i ≡ Some r → file.sealed (r.at + 28) ≡ false
flag_free [] i r file free there = absurd cc
flag_free (first ∷ rows) zero r file free there = let same : first ≡ r = cc in subst (λ (x : Record). file.sealed (x.at + 28) ≡ false) same free.0
flag_free (first ∷ rows) (suc i) r file free there = flag_free rows i r file free.1 there

at_seam : (front behind : List Record) (r : Record) → slice_get (front ++ r ∷ behind) (length front) ≡ Some r
at_seam [] behind r = refl
at_seam (x ∷ front) behind r = at_seam front behind r

rows_unseen : (P : Type 0) (rows front xs behind : List Record) → rows ≡ front ++ (xs ++ behind) → AreOfRows {P = P} rows (map unseen_cell xs)
rows_unseen P rows front [] behind is = tt
rows_unseen P rows front (r ∷ xs) behind is = (
  (length front, r, ap (λ (l : List Record). slice_get l (length front)) is ∙ at_seam front (xs ++ behind) r, refl, refl),
  rows_unseen P rows (front ++ r ∷ []) xs behind (is ∙ sym (append_assoc front (r ∷ []) (xs ++ behind))),
)

module _ {P : Type 0} where
  place_row : (rows : List Record) (i : ℕ) (r : Record) (p : Place P) → slice_get rows i ≡ Some r → StandsAt r.at p → IsOfRow rows p
  place_row rows i r (place.Live needle) there here = (i, r, there, here)
  place_row rows i r place.None there here = tt
  place_row rows i r place.Gone there here = tt
  place_row rows i r (place.Unseen at size) there here = absurd here

  rows_last : (rows : List Record) (cells : List (OpenCell P)) (cell : OpenCell P) → AreOfRows rows cells → IsOfRow rows cell.place → AreOfRows rows (cells ++ cell ∷ [])
  rows_last rows [] cell all one = (one, tt)
  rows_last rows (first ∷ cells) cell all one = (all.0, rows_last rows cells cell all.1 one)

  -- one more cell, whose needle is that of a record
  pub rows_more : (rows : List Record) (i : ℕ) (r : Record) (old new : List (OpenCell P)) → slice_get rows i ≡ Some r → AreOfRows rows old → AddsAt r.at old new → AreOfRows rows new
  rows_more rows i r old new there all adds =
      subst (λ (l : List (OpenCell P)). AreOfRows rows l) (sym adds.1) (rows_last rows old adds.0 all (place_row rows i r adds.0.place there adds.2))

  -- the first ones, which are not looked at
  pub rows_first : (rows : List Record) (k : ℕ) (cells : List (OpenCell P)) → cells ≡ map unseen_cell (take k rows) → AreOfRows rows cells
  rows_first rows k cells is = subst (λ (l : List (OpenCell P)). AreOfRows rows l) (sym is) (rows_unseen P rows [] (take k rows) (drop k rows) (sym (take-append-drop k rows)))

  flag_place : (rows : List Record) (file : FileState) (end : ℕ) (p : Place P) → AreInRow 64 rows → place_behind 64 rows ≤ end → RowFlagsFree file rows → IsOfRow rows p → MayFlagPlace file end p
  flag_place rows file end (place.Live needle) row ends free (i, r, there, here) =
      let within = row_within 64 i rows r row there in
      (omega (arith, within.1, ends, here), subst (λ n. file.sealed (n + 28) ≡ false) (sym here) (flag_free rows i r file free there))
  flag_place rows file end place.None row ends free is = tt
  flag_place rows file end place.Gone row ends free is = tt
  flag_place rows file end (place.Unseen at size) row ends free (i, r, there, here, long) =
      let within = row_within 64 i rows r row there in
      (rw (here, long) (omega (arith, within.1, ends)), subst (λ n. file.sealed (n + 28) ≡ false) (sym here) (flag_free rows i r file free there))

  -- each needle may be flagged
  pub flag_each : (rows : List Record) (file : FileState) (end : ℕ) (cells : List (OpenCell P)) → AreInRow 64 rows → place_behind 64 rows ≤ end → RowFlagsFree file rows → AreOfRows rows cells
      → AllByRecursion (λ cell. MayFlagPlace file end cell.place) cells
  flag_each rows file end [] row ends free all = tt
  flag_each rows file end (cell ∷ cells) row ends free all = (flag_place rows file end cell.place row ends free all.0, flag_each rows file end cells row ends free all.1)

  place_within : (rows : List Record) (end : ℕ) (p : Place P) → AreInRow 64 rows → place_behind 64 rows ≤ end → IsOfRow rows p → PlaceWithin end p
  place_within rows end (place.Live needle) row ends (i, r, there, here) =
      let within = row_within 64 i rows r row there in (omega (arith, within.0, here), omega (arith, within.1, ends, here))
  place_within rows end place.None row ends is = tt
  place_within rows end place.Gone row ends is = tt
  place_within rows end (place.Unseen at size) row ends (i, r, there, here, long) =
      let within = row_within 64 i rows r row there in rw (here, long) (within.0, omega (arith, within.1, ends))

  -- each needle lies before the end
  pub within_each : (rows : List Record) (end : ℕ) (cells : List (OpenCell P)) → AreInRow 64 rows → place_behind 64 rows ≤ end → AreOfRows rows cells → ArePlacesWithin end cells
  within_each rows end [] row ends all = tt
  within_each rows end (cell ∷ cells) row ends all = (place_within rows end cell.place row ends all.0, within_each rows end cells row ends all.1)
