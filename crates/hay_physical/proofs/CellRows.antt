-- Cells without gaps: their records are in the row of places, and what a change does to their flags.
use Rattle.std.proofs.Common.{◌≡◌, ◌≢◌, inl, inr, ℕ, ◌+◌, ◌<◌, ◌≤◌, Bool, true, false, cond, List, [], ◌∷◌, ◌++◌, length, take, drop, refl, sym, ◌∙◌, ap, subst, arith, length-append, nat_eq}
use Rattle.std.specs.Prelude.{map}
use Rattle.std.proofs.lemmas.Bool.{eq-eqb, ne_eqb}
use Rattle.std.proofs.lemmas.List.{length-map}
use Rattle.hay_needle.specs.declared.needle.Cell.{Cell}
use Rattle.hay_needle.specs.Needle.{NeedleBytes, needle_of_cell}
use Rattle.hay_needle.specs.Sizes.{needle_total}
use Rattle.hay_needle.proofs.Needles.{length-needle}
use Rattle.hay_disk.specs.Disk.{FileState, Seals}
use Rattle.hay_volume.specs.Cells.{AreCellsAt, HasCells, HasPlace, IsCellAt, StandsCell, with_flag}
use Rattle.hay_volume.proofs.FlagLaws.{placed}
use Rattle.hay_volume.proofs.Readings.{cells_first}
use Rattle.hay_index.specs.declared.record.Record.{Record}
use Rattle.hay_index.specs.Records.{AreInRow}
use Rattle.hay_open.specs.Stored.{FlagsFree, cell_record}
use Rattle.hay_physical.specs.Replicas.{HasLive}

-- a needle's length
needle_long : (at : ℕ) (needle : List ℕ) (cell : Cell) → IsCellAt at needle cell → length needle ≡ needle_total (length cell.bytes)
needle_long at needle cell is = length-needle needle (needle_of_cell cell) is.is

-- the records of cells without gaps are in the row
pub cells_row : (at : ℕ) (bytes : List ℕ) (cells : List Cell) → AreCellsAt at bytes cells → AreInRow at (map cell_record cells)
cells_row at bytes [] are = tt
cells_row at bytes (cell ∷ cells) are =
    (are.3.place, subst (λ n. AreInRow (at + n) (map cell_record cells)) (needle_long at are.0 cell are.3) (cells_row (at + length are.0) are.1 cells are.4))

-- a cell that stands behind others
pub last_stands : (at end : ℕ) (file : List ℕ) (cells : List Cell) (cell : Cell) → HasCells at file (cells ++ cell ∷ []) end → StandsCell cell.at file cell
last_stands at end file [] cell has =
    let first = (cells_first at end file cell [] has).0 in
    subst (λ n. StandsCell n file cell) (sym first.is.place) first
last_stands at end file (before ∷ cells) cell has = last_stands (at + needle_total (length before.bytes)) end file cells cell (cells_first at end file before (cells ++ cell ∷ []) has).1

-- the bytes of its needle
pub needle_there : (file : List ℕ) (cell : Cell) → StandsCell cell.at file cell → NeedleBytes (take (needle_total (length cell.bytes)) (drop cell.at file)) (needle_of_cell cell)
needle_there file cell here =
    subst (λ (l : List ℕ). NeedleBytes l (needle_of_cell cell))
    (sym here.stand ∙ ap (λ n. take n (drop cell.at file)) (needle_long cell.at here.needle cell here.is)) here.is.is

-- so are the bytes that were read of it
pub needle_from : (at n : ℕ) (file bytes : List ℕ) (cell : Cell) → StandsCell at file cell → n ≡ needle_total (length cell.bytes) → bytes ≡ take n (drop at file)
    → NeedleBytes bytes (needle_of_cell cell)
needle_from at n file bytes cell stands total read =
    let place : cell.at ≡ at = stands.is.place in
    let here : bytes ≡ take (needle_total (length cell.bytes)) (drop cell.at file) =
    read ∙ ap (λ k. take k (drop at file)) total ∙ ap (λ k. take (needle_total (length cell.bytes)) (drop k file)) (sym place) in
    subst (λ (l : List ℕ). NeedleBytes l (needle_of_cell cell)) (sym here) (needle_there file cell (subst (λ k. StandsCell k file cell) (sym place) stands))

-- FLAGS

pub flags_kept : (old new : FileState) (cells : List Cell) → ((k : ℕ) → old.sealed k ≡ false → new.sealed k ≡ false) → FlagsFree old cells → FlagsFree new cells
flags_kept old new [] free flags = tt
flags_kept old new (cell ∷ cells) free flags = (free (cell.at + 28) flags.0, flags_kept old new cells free flags.1)

-- where a piece behind the cells is given out
pub flags_sealed : (at start n hole : ℕ) (bytes : List ℕ) (cells : List Cell) (old new : FileState) → AreCellsAt at bytes cells → at + length bytes ≤ start
    → Seals start n hole old new → FlagsFree old cells → FlagsFree new cells
flags_sealed at start n hole bytes [] old new are before seals flags = tt
flags_sealed at start n hole bytes (cell ∷ cells) old new are before seals flags =
    let long : length are.0 ≡ needle_total (length cell.bytes) = needle_long at are.0 cell are.3 in
    let whole : length bytes ≡ length are.0 + length are.1 = ap length are.2 ∙ length-append are.0 are.1 in
    let place : cell.at ≡ at = are.3.place in
    let low : cell.at + 28 < start = omega (arith, long, whole, before, place) in (
      seals.free (cell.at + 28) flags.0 (inl (inl low)),
      flags_sealed (at + length are.0) start n hole are.1 cells old new are.4 (omega (arith, whole, before)) seals flags.1,
    )

pub flags_more : (file : FileState) (cells : List Cell) (cell : Cell) → FlagsFree file cells → file.sealed (cell.at + 28) ≡ false → FlagsFree file (cells ++ cell ∷ [])
flags_more file [] cell flags free = (free, tt)
flags_more file (first ∷ cells) cell flags free = (flags.0, flags_more file cells cell flags.1 free)

pub flags_first : (file : FileState) (cells more : List Cell) → FlagsFree file (cells ++ more) → FlagsFree file cells
flags_first file [] more flags = tt
flags_first file (first ∷ cells) more flags = (flags.0, flags_first file cells more flags.1)

pub flag_free : (file : FileState) (at : ℕ) (cells : List Cell) → FlagsFree file cells → HasPlace at cells → file.sealed (at + 28) ≡ false
flag_free file at [] flags has = absurd has
flag_free file at (cell ∷ cells) flags (inl here) = subst (λ n. file.sealed (n + 28) ≡ false) here flags.0
flag_free file at (cell ∷ cells) flags (inr later) = flag_free file at cells flags.1 later

pub live_place : (at : ℕ) (cells : List Cell) → HasLive at cells → HasPlace at cells
live_place at [] has = has
live_place at (cell ∷ cells) (inl here) = inl here.0
live_place at (cell ∷ cells) (inr later) = inr (live_place at cells later)

-- WITH A FLAG

abbrev flagged : ℕ → Bool → Cell → Cell
flagged at deleted cell = cond (nat_eq cell.at at) (record cell { deleted = deleted }) cell

record_same : (b deleted : Bool) (cell : Cell) → cell_record (cond b (record cell { deleted = deleted }) cell) ≡ cell_record cell
record_same true deleted cell = refl
record_same false deleted cell = refl

place_same : (b deleted : Bool) (cell : Cell) → (cond b (record cell { deleted = deleted }) cell).at ≡ cell.at
place_same true deleted cell = refl
place_same false deleted cell = refl

pub records_flagged : (at : ℕ) (deleted : Bool) (cells : List Cell) → map cell_record (with_flag at deleted cells) ≡ map cell_record cells
records_flagged at deleted [] = refl
records_flagged at deleted (cell ∷ cells) =
    ap (λ (r : Record). r ∷ map cell_record (with_flag at deleted cells)) (record_same (nat_eq cell.at at) deleted cell)
    ∙ ap (λ (l : List Record). cell_record cell ∷ l) (records_flagged at deleted cells)

pub length-with_flag : (at : ℕ) (deleted : Bool) (cells : List Cell) → length (with_flag at deleted cells) ≡ length cells
length-with_flag at deleted cells = length-map cells (flagged at deleted)

pub flags_flagged : (file : FileState) (at : ℕ) (deleted : Bool) (cells : List Cell) → FlagsFree file cells → FlagsFree file (with_flag at deleted cells)
flags_flagged file at deleted [] flags = tt
flags_flagged file at deleted (cell ∷ cells) flags =
    (subst (λ n. file.sealed (n + 28) ≡ false) (sym (place_same (nat_eq cell.at at) deleted cell)) flags.0, flags_flagged file at deleted cells flags.1)

-- cells behind a place stay
behind : (from at : ℕ) (bytes : List ℕ) (cells : List Cell) (deleted : Bool) → AreCellsAt from bytes cells → at < from → with_flag at deleted cells ≡ cells
behind from at bytes [] deleted are low = refl
behind from at bytes (cell ∷ cells) deleted are low =
    let place = are.3.place in
    let other : cell.at ≢ at = λ e. omega arith in
    rw (ne_eqb cell.at at other) (ap (λ (l : List Cell). cell ∷ l) (behind (from + length are.0) at are.1 cells deleted are.4 (omega arith)))

-- A live cell that is flagged as one that is not deleted stays.
pub not_flagged : (from at : ℕ) (bytes : List ℕ) (cells : List Cell) → AreCellsAt from bytes cells → HasLive at cells → with_flag at false cells ≡ cells
not_flagged from at bytes [] are has = absurd has
not_flagged from at bytes (cell ∷ cells) are (inl here) =
    let place = are.3.place in
    let long = needle_long from are.0 cell are.3 in
    let low : at < from + length are.0 = omega (arith, long, here.0, place) in
    let same : record cell { deleted = false } ≡ cell = ap (λ (b : Bool). let c : Cell = record cell { deleted = b } in c) (sym here.1) in
    rw (eq-eqb cell.at at here.0)
    (ap (λ (c : Cell). c ∷ with_flag at false cells) same ∙ ap (λ (l : List Cell). cell ∷ l) (behind (from + length are.0) at are.1 cells false are.4 low))
not_flagged from at bytes (cell ∷ cells) are (inr later) =
    let range = placed (from + length are.0) at are.1 cells are.4 (live_place at cells later) in
    let place = are.3.place in
    let long = needle_long from are.0 cell are.3 in
    let other : cell.at ≢ at = λ e. omega (arith, long, range.0, place) in
    rw (ne_eqb cell.at at other) (ap (λ (l : List Cell). cell ∷ l) (not_flagged (from + length are.0) at are.1 cells are.4 later))
