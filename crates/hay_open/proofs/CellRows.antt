-- Cells that stand, and their records.
use Rattle.std.proofs.Common.{◌≡◌, ℕ, zero, suc, ◌+◌, ◌*◌, ◌<◌, ◌≤◌, get_or, List, [], ◌∷◌, ◌++◌, length, map, take, drop, Some, refl, sym, ap, subst, ◌∙◌, arith, length-append}
use Rattle.std.proofs.Common.{length-drop, length-take}
use Rattle.std.specs.List.{slice_get, sum_by}
use Rattle.std.proofs.lemmas.List.Sums.{sum_by-cons}
use Rattle.hay_needle.specs.declared.needle.Cell.{Cell}
use Rattle.hay_needle.specs.declared.needle.CellHead.{CellHead}
use Rattle.hay_needle.specs.declared.needle.Needle.{Needle}
use Rattle.hay_needle.specs.Needle.{head_of_needle, needle_of_cell}
use Rattle.hay_needle.specs.Sizes.{needle_total}
use Rattle.hay_needle.proofs.Needles.{head_first, length-needle}
use Rattle.hay_volume.specs.Cells.{AreCellsAt, HasCells, StandsCell, cell_head}
use Rattle.hay_volume.specs.Needles.{AreHeadsFrom}
use Rattle.hay_volume.proofs.Readings.{cell_begins, cells_first}
use Rattle.hay_index.specs.declared.record.Record.{Record}
use Rattle.hay_index.specs.Records.{AreInRow, place_behind}
use Rattle.hay_open.specs.Damage.{FitsNeedle}
use Rattle.hay_open.specs.Listing.{head_record}
use Rattle.hay_open.specs.Stored.{cell_record}

-- ROWS

pub row_join : (at : ℕ) (rows more : List Record) → AreInRow at rows → AreInRow (place_behind at rows) more → AreInRow at (rows ++ more)
row_join at [] more row behind = behind
row_join at (r ∷ rows) more row behind = (row.0, row_join (at + needle_total r.size) rows more row.1 behind)

pub behind_join : (at : ℕ) (rows more : List Record) → place_behind at (rows ++ more) ≡ place_behind (place_behind at rows) more
behind_join at [] more = refl
behind_join at (r ∷ rows) more = behind_join (at + needle_total r.size) rows more

pub behind_far : (at : ℕ) (rows : List Record) → at ≤ place_behind at rows
behind_far at [] = omega arith
behind_far at (r ∷ rows) = omega (arith, behind_far (at + needle_total r.size) rows)

-- the end of records lies behind their start by the bytes of their needles
pub behind_sum : (at : ℕ) (rows : List Record) → place_behind at rows ≡ at + sum_by (λ r. needle_total r.size) rows
behind_sum at [] = omega arith
behind_sum at (r ∷ rows) = omega (arith, behind_sum (at + needle_total r.size) rows, sum_by-cons (λ (x : Record). needle_total x.size) r rows)

-- the record of this number lies between the first place and the end
pub row_within : (at k : ℕ) (rows : List Record) (r : Record) → AreInRow at rows → slice_get rows k ≡ Some r → (at ≤ r.at) × (r.at + needle_total r.size ≤ place_behind at rows)
row_within at k [] r row there = absurd cc
row_within at zero (first ∷ rows) r row there =
    let same : first ≡ r = cc in
    let place : r.at ≡ at = ap (λ (x : Record). x.at) (sym same) ∙ row.0 in
    let size : needle_total first.size ≡ needle_total r.size = ap (λ (x : Record). needle_total x.size) same in
    (omega arith, omega (arith, behind_far (at + needle_total first.size) rows))
row_within at (suc k) (first ∷ rows) r row there =
    let rest = row_within (at + needle_total first.size) k rows r row.1 there in (omega (arith, rest.0), rest.1)

-- HEADS

pub heads_row : (at end : ℕ) (heads : List CellHead) → AreHeadsFrom at heads end → AreInRow at (map head_record heads) × (place_behind at (map head_record heads) ≡ end)
heads_row at end [] row = (tt, row)
heads_row at end (head ∷ heads) row = let rest = heads_row (at + needle_total head.size) end heads row.1 in ((row.0, rest.0), rest.1)

-- so many needles take as many bytes at least
pub heads_far : (at end : ℕ) (heads : List CellHead) → AreHeadsFrom at heads end → at + length heads * 48 ≤ end
heads_far at end [] row = omega (arith, row)
heads_far at end (head ∷ heads) row = omega (arith, heads_far (at + needle_total head.size) end heads row.1)

heads_at : (k : ℕ) (heads : List CellHead) (d : CellHead) → k < length heads → slice_get (map head_record heads) k ≡ Some (head_record (get_or heads k d))
heads_at k [] d within = absurd (omega (arith, within))
heads_at zero (head ∷ heads) d within = refl
heads_at (suc k) (head ∷ heads) d within = heads_at k heads d (omega (arith, within))

-- CELLS

cells_row : (at : ℕ) (bytes : List ℕ) (cells : List Cell) → AreCellsAt at bytes cells → AreInRow at (map cell_record cells) × (place_behind at (map cell_record cells) ≡ at + length bytes)
cells_row at bytes [] are = (tt, omega (arith, ap length are))
cells_row at bytes (cell ∷ cells) are =
    let long : length are.0 ≡ needle_total (length cell.bytes) = length-needle are.0 (needle_of_cell cell) are.3.is in
    let rest = cells_row (at + length are.0) are.1 cells are.4 in
    let there : at + length are.0 ≡ at + needle_total (length cell.bytes) = omega arith in (
      (are.3.place, subst (λ n. AreInRow n (map cell_record cells)) there rest.0),
      ap (λ n. place_behind n (map cell_record cells)) (sym there) ∙ rest.1
          ∙ omega (arith, ap length are.2, length-append are.0 are.1),
    )

-- the records of cells are in the row, and it ends where they do
pub has_row : (at end : ℕ) (file : List ℕ) (cells : List Cell) → HasCells at file cells end → AreInRow at (map cell_record cells)
has_row at end file cells has = (cells_row at has.needles cells has.are).0

pub has_end : (at end : ℕ) (file : List ℕ) (cells : List Cell) → HasCells at file cells end → place_behind at (map cell_record cells) ≡ end
has_end at end file cells has = (cells_row at has.needles cells has.are).1 ∙ has.ends

-- a cell's needle lies in the file
pub cell_inside : (at : ℕ) (file : List ℕ) (cell : Cell) → StandsCell at file cell → at + needle_total (length cell.bytes) ≤ length file
cell_inside at file cell here =
    omega (arith, length-needle here.needle (needle_of_cell cell) here.is.is, ap length here.stand, length-take (length here.needle) (drop at file), length-drop at file)

pub head_inside : (file : List ℕ) (head : CellHead) (cell : Cell) → StandsCell head.at file cell → head ≡ cell_head cell → head.at + needle_total head.size ≤ length file
head_inside file head cell here is =
    let size : needle_total head.size ≡ needle_total (length cell.bytes) = ap (λ (h : CellHead). needle_total h.size) is in
    omega (arith, cell_inside head.at file cell here)

-- the cell of this number stands at its place
pub cell_numbered : (at end k : ℕ) (file : List ℕ) (cells : List Cell) (cell : Cell) → HasCells at file cells end → slice_get cells k ≡ Some cell → StandsCell cell.at file cell
cell_numbered at end k file [] cell has there = absurd cc
cell_numbered at end zero file (first ∷ cells) cell has there =
    let same : first ≡ cell = cc in
    let here = (cells_first at end file first cells has).0 in
    subst (λ (c : Cell). StandsCell c.at file c) same (subst (λ n. StandsCell n file first) (sym here.is.place) here)
cell_numbered at end (suc k) file (first ∷ cells) cell has there =
    cell_numbered (at + needle_total (length first.bytes)) end k file cells cell (cells_first at end file first cells has).1 there

-- the head of a cell fits its record
pub cell_fits : (file : List ℕ) (row : Record) (cell : Cell) → row ≡ cell_record cell → StandsCell cell.at file cell → FitsNeedle row file
cell_fits file row cell is here =
    let n : Needle = needle_of_cell cell in
    subst (λ (r : Record). FitsNeedle r file) (sym is)
    (record { head = head_of_needle n; stands = head_first (drop cell.at file) n (cell_begins cell.at file cell here); pair = refl; size = refl })

-- the cells behind some of them
pub cells_behind : (at end k : ℕ) (file : List ℕ) (cells : List Cell) → HasCells at file cells end → HasCells (place_behind at (take k (map cell_record cells))) file (drop k cells) end
cells_behind at end zero file cells has = has
cells_behind at end (suc k) file [] has = has
cells_behind at end (suc k) file (cell ∷ cells) has = cells_behind (at + needle_total (length cell.bytes)) end k file cells (cells_first at end file cell cells has).1

-- LISTS

pub map_heads : (cells : List Cell) → map head_record (map cell_head cells) ≡ map cell_record cells
map_heads [] = refl
map_heads (cell ∷ cells) = ap (λ (l : List Record). cell_record cell ∷ l) (map_heads cells)

pub map_drop : (k : ℕ) (cells : List Cell) → drop k (map cell_record cells) ≡ map cell_record (drop k cells)
map_drop zero cells = refl
map_drop (suc k) [] = refl
map_drop (suc k) (cell ∷ cells) = map_drop k cells

pub map_take : (k : ℕ) (cells : List Cell) → take k (map cell_record cells) ≡ map cell_record (take k cells)
map_take zero cells = refl
map_take (suc k) [] = refl
map_take (suc k) (cell ∷ cells) = ap (λ (l : List Record). cell_record cell ∷ l) (map_take k cells)

pub map_length : (cells : List Cell) → length (map cell_record cells) ≡ length cells
map_length [] = refl
map_length (cell ∷ cells) = ap (λ n. suc n) (map_length cells)

pub get_behind : {A : Type 0} (n k : ℕ) (xs : List A) → slice_get (drop n xs) k ≡ slice_get xs (n + k)
get_behind zero k xs = let e : 0 + k ≡ k = omega arith in ap (λ i. slice_get xs i) (sym e)
get_behind (suc n) k [] = refl
get_behind (suc n) k (x ∷ xs) = let e : suc n + k ≡ suc (n + k) = omega arith in get_behind n k xs ∙ ap (λ i. slice_get (x ∷ xs) i) (sym e)

-- the record of a head, behind the recorded ones
pub head_row : (recorded k : ℕ) (rows : List Record) (slice heads : List CellHead) (d : CellHead) → drop recorded rows ≡ map head_record heads → slice ≡ heads → k < length slice
    → slice_get rows (recorded + k) ≡ Some (head_record (get_or slice k d))
head_row recorded k rows slice heads d behind same within =
    sym (get_behind recorded k rows) ∙ ap (λ (l : List Record). slice_get l k) (behind ∙ ap (λ (l : List CellHead). map head_record l) (sym same)) ∙ heads_at k slice d within

-- a list at the element of a number
pub split_at : {A : Type 0} (k : ℕ) (xs : List A) (x : A) → slice_get xs k ≡ Some x → xs ≡ take k xs ++ x ∷ drop (k + 1) xs
split_at k [] x there = absurd cc
split_at zero (y ∷ xs) x there = let same : y ≡ x = cc in ap (λ z. z ∷ xs) same
split_at (suc k) (y ∷ xs) x there =
    let next : suc k + 1 ≡ suc (k + 1) = omega arith in
    ap (λ l. y ∷ l) (split_at k xs x there) ∙ ap (λ n. y ∷ take k xs ++ x ∷ drop n (y ∷ xs)) (sym next)

pub take_here : {A : Type 0} (k : ℕ) (xs : List A) (x : A) → slice_get xs k ≡ Some x → take (k + 1) xs ≡ take k xs ++ x ∷ []
take_here k [] x there = absurd cc
take_here zero (y ∷ xs) x there = let same : y ≡ x = cc in ap (λ z. z ∷ []) same
take_here (suc k) (y ∷ xs) x there =
    let next : suc k + 1 ≡ suc (k + 1) = omega arith in
    ap (λ n. take n (y ∷ xs)) next ∙ ap (λ l. y ∷ l) (take_here k xs x there)

-- the cell of a record's number
pub cell_there : (k : ℕ) (cells : List Cell) (r : Record) → slice_get (map cell_record cells) k ≡ Some r → (cell : Cell) × (slice_get cells k ≡ Some cell) × (r ≡ cell_record cell)
cell_there k [] r there = absurd cc
cell_there zero (cell ∷ cells) r there = let same : cell_record cell ≡ r = cc in (cell, refl, sym same)
cell_there (suc k) (first ∷ cells) r there = cell_there k cells r there

pub row_there : (k : ℕ) (cells : List Cell) (cell : Cell) → slice_get cells k ≡ Some cell → slice_get (map cell_record cells) k ≡ Some (cell_record cell)
row_there k [] cell there = absurd cc
row_there zero (first ∷ cells) cell there = let same : first ≡ cell = cc in ap (λ (c : Cell). Some (cell_record c)) same
row_there (suc k) (first ∷ cells) cell there = row_there k cells cell there

pub head_there : (k : ℕ) (cells : List Cell) (head : CellHead) → slice_get (map cell_head cells) k ≡ Some head → (cell : Cell) × (slice_get cells k ≡ Some cell) × (head ≡ cell_head cell)
head_there k [] head there = absurd cc
head_there zero (cell ∷ cells) head there = let same : cell_head cell ≡ head = cc in (cell, refl, sym same)
head_there (suc k) (first ∷ cells) head there = head_there k cells head there

pub heads_length : (cells : List Cell) → length (map cell_head cells) ≡ length cells
heads_length [] = refl
heads_length (cell ∷ cells) = ap (λ n. suc n) (heads_length cells)
