-- Cells that are read one after another.
use Rattle.std.proofs.Common.{◌≡◌, ◌≢◌, ◌+◌, ◌<◌, ◌≤◌, ◌^◌, ℕ, List, [], ◌∷◌, ◌++◌, length, get_or, take, drop, refl, sym, ◌∙◌, ap, subst, arith, Bool, true, false, inl, inr}
use Rattle.std.proofs.Common.{append-nil, length-take, length-drop}
use Rattle.std.proofs.lemmas.Bool.{cases_lt}
use Rattle.std.proofs.lemmas.List.{drop_all, take_all, drop-drop, get_or_past, length-append, map-append}
use Rattle.std.proofs.Math.Seq.{take-add}
use Rattle.std.specs.Prelude.{map, Option, Some, IfSome}
use Rattle.hay_needle.specs.Sizes.{needle_total}
use Rattle.hay_needle.proofs.Needles.{length-needle}
use Rattle.std.specs.Bool.{OnTrue}
use Rattle.hay_needle.specs.Fields.{number_at}
use Rattle.hay_needle.specs.declared.needle.Cell.{Cell}
use Rattle.hay_needle.specs.declared.needle.CellHead.{CellHead}
use Rattle.hay_needle.specs.declared.needle.Needle.{Needle}
use Rattle.hay_needle.specs.Needle.{Head, HeadBytes, NeedleBytes, BeginsWithNeedle, needle_of_cell, head_of_cell, head_of_needle, needle_magic}
use Rattle.hay_needle.proofs.FieldLemmas.{IsBytes, field_8}
use Rattle.hay_disk.specs.Gate.{magic_bytes, IsClosed, HasBytesAt}
use Rattle.hay_volume.specs.Cells.{HasCells, StandsCell, IsBrokenAt, IsDamagedCell, cell_head}
use Rattle.hay_volume.specs.Needles.{AreHeadsFrom}
use Rattle.hay_volume.proofs.ReadLaws.{cell_of}
use Rattle.hay_volume.proofs.CellLaws.{one_more}

-- nothing was read yet
pub nothing_yet : (n : ℕ) (items file : List ℕ) → items ≡ [] → n ≡ 0 → items ≡ take n file
nothing_yet n items file none zero = none ∙ sym (ap (λ k. take k file) zero)

-- each byte of a vector, and nothing behind them
pub are_bytes : (xs : List ℕ) → ((i d : ℕ) → i < length xs → get_or xs i d < 256) → IsBytes xs
are_bytes xs fits i =
    elim (cases_lt i (length xs)) [
      | inl within ↦ fits i 0 within
      | inr past ↦ rw (get_or_past xs i 0 past) (omega arith)
    ]

-- eight bytes are the magic where their number is
pub is_magic : (bytes : List ℕ) → IsBytes bytes → length bytes ≡ 8 → number_at 8 0 bytes ≡ needle_magic → bytes ≡ magic_bytes needle_magic
is_magic bytes fits long is =
    field_8 0 bytes (omega arith) fits ∙ ap (λ (l : List ℕ). magic_bytes (number_at 8 0 bytes) ++ l) (drop_all 8 bytes (omega arith))
    ∙ append-nil (magic_bytes (number_at 8 0 bytes)) ∙ ap magic_bytes is

pub no_magic : (bytes : List ℕ) → number_at 8 0 bytes ≢ needle_magic → bytes ≢ magic_bytes needle_magic
unfolding number_at
no_magic bytes other is = other (ap (λ (l : List ℕ). number_at 8 0 l) is)

-- eight bytes that are not the magic end the cells
pub closed_here : (at : ℕ) (seen bytes file : List ℕ) → seen ≡ bytes → bytes ≡ take 8 (drop at file) → 8 ≤ length bytes → number_at 8 0 seen ≢ needle_magic → IsClosed needle_magic at file
closed_here at seen bytes file same read long other = record {
  room = omega (arith, ap length read, length-take 8 (drop at file), length-drop at file);
  shut = λ magic. no_magic seen other (same ∙ read ∙ magic);
}

pub magic_here : (at : ℕ) (seen bytes file : List ℕ) → IsBytes bytes → seen ≡ bytes → bytes ≡ take 8 (drop at file) → length bytes ≡ 8 → number_at 8 0 seen ≡ needle_magic
    → take 8 (drop at file) ≡ magic_bytes needle_magic
magic_here at seen bytes file fits same read long is =
    sym read ∙ is_magic bytes fits long (ap (λ (l : List ℕ). number_at 8 0 l) (sym same) ∙ is)

-- the first eight bytes are as many as there are
pub eight_first : (was : ℕ) (items file : List ℕ) → was ≡ 8 → items ≡ take 8 file → items ≡ take was file
eight_first was items file is front = front ∙ ap (λ k. take k file) (sym is)

-- the head that was read is all of the bytes
pub head_alone : (seen bytes : List ℕ) (h : Head) → seen ≡ bytes → length bytes ≤ 36 → HeadBytes (take 36 seen) h → HeadBytes bytes h
head_alone seen bytes h same short is = subst (λ (l : List ℕ). HeadBytes l h) (take_all 36 seen (omega (arith, ap length same)) ∙ same) is

-- a cell from what was read of it
pub stands_cell : (at : ℕ) (head : CellHead) (bytes file : List ℕ) (n : Needle) → head.at ≡ at → NeedleBytes bytes n → head_of_cell head ≡ head_of_needle n → HasBytesAt at bytes file
    → (cell : Cell) × StandsCell at file cell × (head ≡ cell_head cell)
stands_cell at head bytes file n place is same stand =
    let made = cell_of at head bytes n place is same in
    (made.0, record { needle = bytes; is = made.1; stand = stand }, made.2)

-- the magic stands, and no needle
pub broken_here : (at : ℕ) (bytes file later : List ℕ) → later ≡ file → bytes ≡ take 8 (drop at file) → take 8 (drop at file) ≡ magic_bytes needle_magic
    → (bytes ≡ take 8 (drop at later) → (n : Needle) → BeginsWithNeedle (drop at later) n → ⊥) → IsBrokenAt at file
broken_here at bytes file later same read magic none =
    let there : drop at file ≡ drop at later = ap (λ (l : List ℕ). drop at l) (sym same) in
    inr (magic, λ n begins. none (read ∙ ap (λ (l : List ℕ). take 8 l) there) n (subst (λ (l : List ℕ). BeginsWithNeedle l n) there begins))

pub on_true : (b : Bool) (P : Type 0) → b ≡ true → OnTrue b P → P
on_true true P e holds = holds
on_true false P e holds = absurd cc

-- THE WHOLE SCAN

-- the cells up to here, and what was noted of them
pub record IsScanned (at : ℕ) (file : List ℕ) (heads : List CellHead) (end : ℕ) : Type 0 where
  pub cells : List Cell
  pub has : HasCells at file cells end
  pub noted : heads ≡ map cell_head cells

pub none_scanned : (at : ℕ) (file : List ℕ) (heads : List CellHead) → heads ≡ [] → IsScanned at file heads at
none_scanned at file heads none = record { cells = []; has = record { needles = []; are = refl; stand = refl; ends = omega arith }; noted = none }

-- these bytes, and these behind them
stands_more : (at : ℕ) (xs ys file : List ℕ) → HasBytesAt at xs file → HasBytesAt (at + length xs) ys file → HasBytesAt at (xs ++ ys) file
stands_more at xs ys file first second =
    let there : drop (length xs) (drop at file) ≡ drop (at + length xs) file = drop-drop (length xs) at file ∙ ap (λ k. drop k file) (omega arith) in
    ap (λ k. take k (drop at file)) (length-append xs ys) ∙ take-add (length xs) (length ys) (drop at file)
    ∙ ap (λ (l : List ℕ). take (length xs) (drop at file) ++ take (length ys) l) there ∙ ap (λ (l : List ℕ). l ++ take (length ys) (drop (at + length xs) file)) first
    ∙ ap (λ (l : List ℕ). xs ++ l) second

-- one cell more
pub more_cells : (at end next : ℕ) (file : List ℕ) (cells : List Cell) (cell : Cell) → HasCells at file cells end → StandsCell end file cell
    → next ≡ end + needle_total (length cell.bytes) → HasCells at file (cells ++ cell ∷ []) next
more_cells at end next file cells cell has here is = record {
  needles = has.needles ++ here.needle;
  are = one_more at end has.needles here.needle cells cell has.are (sym has.ends) here.is;
  stand = stands_more at has.needles here.needle file has.stand (subst (λ k. HasBytesAt k here.needle file) (sym has.ends) here.stand);
  ends = omega (arith, length-append has.needles here.needle, has.ends, length-needle here.needle (needle_of_cell cell) here.is.is);
}

pub one_scanned : (at end next : ℕ) (file : List ℕ) (heads : List CellHead) (head : CellHead) (cell : Cell) → IsScanned at file heads end → StandsCell end file cell
    → head ≡ cell_head cell → next ≡ end + needle_total head.size
    → IsScanned at file (heads ++ head ∷ []) next
one_scanned at end next file heads head cell before here is nexts = record {
  cells = before.cells ++ cell ∷ [];
  has = more_cells at end next file before.cells cell before.has here (nexts ∙ ap (λ (h : CellHead). end + needle_total h.size) is);
  noted = ap (λ (l : List CellHead). l ++ head ∷ []) before.noted ∙ ap (λ (h : CellHead). map cell_head before.cells ++ h ∷ []) is ∙ sym (map-append cell_head before.cells (cell ∷ []));
}

-- a cell lies within its file
pub cell_within : (at : ℕ) (file : List ℕ) (cell : Cell) (head : CellHead) → StandsCell at file cell → head ≡ cell_head cell → length file < 2 ^ 64 → at + needle_total head.size < 2 ^ 64
cell_within at file cell head here is fits =
    let long : length here.needle ≡ needle_total head.size = length-needle here.needle (needle_of_cell cell) here.is.is ∙ ap (λ (h : CellHead). needle_total h.size) (sym is) in
    omega (arith, long, ap length here.stand, length-take (length here.needle) (drop at file), length-drop at file)

pub damaged_here : (at end k : ℕ) (file later : List ℕ) (heads : List CellHead) → IsScanned at file heads end → later ≡ file → k ≡ end → IsBrokenAt end later → IsDamagedCell at file k
damaged_here at end k file later heads scanned same here broken = record {
  cells = scanned.cells;
  lead = subst (λ n. HasCells at file scanned.cells n) (sym here) scanned.has;
  broken = subst (λ n. IsBrokenAt n file) (sym here) (subst (λ (l : List ℕ). IsBrokenAt end l) same broken);
}

-- the cell that was found
pub found : (next : Option CellHead) (head : CellHead) (P : CellHead → Type 0) → next ≡ Some head → IfSome next P → P head
found next head P is holds = subst (λ (o : Option CellHead). IfSome o P) is holds

pub same_cell : (at : ℕ) (file later : List ℕ) (cell : Cell) → later ≡ file → StandsCell at later cell → StandsCell at file cell
same_cell at file later cell same here = subst (λ (l : List ℕ). StandsCell at l cell) same here

-- one head more
pub heads_push : (at end next : ℕ) (heads : List CellHead) (head : CellHead) → AreHeadsFrom at heads end → head.at ≡ end → next ≡ end + needle_total head.size
    → AreHeadsFrom at (heads ++ head ∷ []) next
heads_push at end next [] head row place is = (place ∙ sym row, omega (arith, row, is))
heads_push at end next (first ∷ heads) head row place is = (row.0, heads_push (at + needle_total first.size) end next heads head row.1 place is)
