-- A file has one reading: the cells from a place on, and either their end or a damage.
use Rattle.std.proofs.Common.{◌≡◌, ◌+◌, ℕ, List, [], ◌∷◌, ◌++◌, length, take, drop, refl, sym, ◌∙◌, ap, subst, arith, inl, inr, length-take, length-drop}
use Rattle.std.proofs.lemmas.List.{take_at, drop_at, take-take, drop-take, drop-drop, take-append-drop, length-append}
use Rattle.hay_needle.specs.declared.needle.Cell.{Cell}
use Rattle.hay_needle.specs.declared.needle.Needle.{Needle}
use Rattle.hay_needle.specs.Needle.{BeginsWithNeedle, needle_of_cell, needle_magic, head_bytes}
use Rattle.hay_needle.specs.Sizes.{needle_total}
use Rattle.hay_needle.proofs.Needles.{length-needle, one_needle}
use Rattle.hay_disk.specs.Gate.{IsClosed, HasBytesAt, magic_bytes}
use Rattle.hay_volume.specs.Cells.{HasCells, IsBrokenAt, StandsCell}

-- the first cell, and the others behind it
pub cells_first : (at end : ℕ) (file : List ℕ) (cell : Cell) (cells : List Cell) → HasCells at file (cell ∷ cells) end
    → StandsCell at file cell × HasCells (at + needle_total (length cell.bytes)) file cells end
cells_first at end file cell cells has =
    let needle : List ℕ = has.are.0 in
    let rest : List ℕ = has.are.1 in
    let split : has.needles ≡ needle ++ rest = has.are.2 in
    let whole : length has.needles ≡ length needle + length rest = ap length split ∙ length-append needle rest in
    let stand : take (length needle + length rest) (drop at file) ≡ needle ++ rest = ap (λ n. take n (drop at file)) (sym whole) ∙ has.stand ∙ split in
    let here : HasBytesAt at needle file =
    sym (take-take (length needle) (length needle + length rest) (drop at file) (omega arith)) ∙ ap (λ (l : List ℕ). take (length needle) l) stand ∙ take_at needle rest (length needle) refl in
    let there : drop (length needle) (drop at file) ≡ drop (at + length needle) file = drop-drop (length needle) at file ∙ ap (λ n. drop n file) (omega arith) in
    let behind : HasBytesAt (at + length needle) rest file =
    ap (λ (l : List ℕ). take (length rest) l) (sym there) ∙ sym (drop-take (length needle) (length rest) (drop at file)) ∙ ap (λ (l : List ℕ). drop (length needle) l) stand
    ∙ drop_at needle rest (length needle) refl in
    let total : length needle ≡ needle_total (length cell.bytes) = length-needle needle (needle_of_cell cell) has.are.3.is in
    let others : HasCells (at + length needle) file cells end = record { needles = rest; are = has.are.4; stand = behind; ends = omega (arith, whole, has.ends) } in
    (record { needle = needle; is = has.are.3; stand = here }, subst (λ n. HasCells (at + n) file cells end) total others)

-- a cell that stands is a needle with which the file goes on
pub cell_begins : (at : ℕ) (file : List ℕ) (cell : Cell) → StandsCell at file cell → BeginsWithNeedle (drop at file) (needle_of_cell cell)
cell_begins at file cell here = record {
  needle = here.needle;
  rest = drop (length here.needle) (drop at file);
  parts = sym (take-append-drop (length here.needle) (drop at file)) ∙ ap (λ (l : List ℕ). l ++ drop (length here.needle) (drop at file)) here.stand;
  is = here.is.is;
}

magic_stands : (bytes : List ℕ) (n : Needle) → BeginsWithNeedle bytes n → take 8 bytes ≡ magic_bytes needle_magic
unfolding head_bytes
magic_stands bytes n begins = ap (λ (l : List ℕ). take 8 l) (begins.parts ∙ ap (λ (l : List ℕ). l ++ begins.rest) begins.is.spelled)

-- where a cell stands the file neither ends nor is broken

open_at : (at : ℕ) (file : List ℕ) (cell : Cell) → StandsCell at file cell → IsClosed needle_magic at file → ⊥
open_at at file cell here closed = closed.shut (magic_stands (drop at file) (needle_of_cell cell) (cell_begins at file cell here))

whole_at : (at : ℕ) (file : List ℕ) (cell : Cell) → StandsCell at file cell → IsBrokenAt at file → ⊥
whole_at at file cell here (inl short) =
    omega (arith, ap length here.stand, length-take (length here.needle) (drop at file), length-drop at file, length-needle here.needle (needle_of_cell cell) here.is.is)
whole_at at file cell here (inr broken) = broken.1 (needle_of_cell cell) (cell_begins at file cell here)

shut_at : (at : ℕ) (file : List ℕ) → IsClosed needle_magic at file → IsBrokenAt at file → ⊥
shut_at at file closed (inl short) = omega (arith, closed.room)
shut_at at file closed (inr broken) = closed.shut broken.0

same_needle : (at : ℕ) (file : List ℕ) (c d : Cell) → StandsCell at file c → StandsCell at file d → needle_of_cell c ≡ needle_of_cell d
same_needle at file c d here there = one_needle (drop at file) (needle_of_cell c) (needle_of_cell d) (cell_begins at file c here) (cell_begins at file d there)

pub same_cell : (at : ℕ) (file : List ℕ) (c d : Cell) → StandsCell at file c → StandsCell at file d → c ≡ d
same_cell at file c d here there =
    let with : ℕ → Needle → Cell = λ k n. record { at = k; version = n.version; pair = n.pair; cookie = n.photo.cookie; bytes = n.photo.bytes; deleted = n.deleted } in
    ap (λ k. with k (needle_of_cell c)) (here.is.place ∙ sym there.is.place) ∙ ap (with d.at) (same_needle at file c d here there)

same_total : (at : ℕ) (file : List ℕ) (c d : Cell) → StandsCell at file c → StandsCell at file d → needle_total (length d.bytes) ≡ needle_total (length c.bytes)
same_total at file c d here there = ap (λ (n : Needle). needle_total (length n.photo.bytes)) (sym (same_needle at file c d here there))

-- the cells up to an end mark are the only ones
pub one_reading : (at end other : ℕ) (file : List ℕ) (cells more : List Cell) → HasCells at file cells end → IsClosed needle_magic end file → HasCells at file more other
    → IsClosed needle_magic other file
    → (cells ≡ more) × (end ≡ other)
one_reading at end other file [] [] has closed again shut = (refl, omega (arith, has.ends, again.ends, ap length has.are, ap length again.are))
one_reading at end other file [] (d ∷ more) has closed again shut =
    let here : end ≡ at = omega (arith, has.ends, ap length has.are) in
    absurd (open_at at file d (cells_first at other file d more again).0 (subst (λ n. IsClosed needle_magic n file) here closed))
one_reading at end other file (c ∷ cells) [] has closed again shut =
    let here : other ≡ at = omega (arith, again.ends, ap length again.are) in
    absurd (open_at at file c (cells_first at end file c cells has).0 (subst (λ n. IsClosed needle_magic n file) here shut))
one_reading at end other file (c ∷ cells) (d ∷ more) has closed again shut =
    let first = cells_first at end file c cells has in
    let second = cells_first at other file d more again in
    let behind : HasCells (at + needle_total (length c.bytes)) file more other = subst (λ n. HasCells (at + n) file more other) (same_total at file c d first.0 second.0) second.1 in
    let rest = one_reading (at + needle_total (length c.bytes)) end other file cells more first.1 closed behind shut in
    (ap (λ x. x ∷ cells) (same_cell at file c d first.0 second.0) ∙ ap (λ (l : List Cell). d ∷ l) rest.0, rest.1)

-- and there is no damage among them
pub undamaged : (at end place : ℕ) (file : List ℕ) (cells more : List Cell) → HasCells at file cells end → IsClosed needle_magic end file → HasCells at file more place → IsBrokenAt place file → ⊥
undamaged at end place file [] [] has closed again broken =
    let here : end ≡ place = omega (arith, has.ends, again.ends, ap length has.are, ap length again.are) in
    shut_at place file (subst (λ n. IsClosed needle_magic n file) here closed) broken
undamaged at end place file [] (d ∷ more) has closed again broken =
    let here : end ≡ at = omega (arith, has.ends, ap length has.are) in
    open_at at file d (cells_first at place file d more again).0 (subst (λ n. IsClosed needle_magic n file) here closed)
undamaged at end place file (c ∷ cells) [] has closed again broken =
    let here : place ≡ at = omega (arith, again.ends, ap length again.are) in
    whole_at at file c (cells_first at end file c cells has).0 (subst (λ n. IsBrokenAt n file) here broken)
undamaged at end place file (c ∷ cells) (d ∷ more) has closed again broken =
    let first = cells_first at end file c cells has in
    let second = cells_first at place file d more again in
    let behind : HasCells (at + needle_total (length c.bytes)) file more place = subst (λ n. HasCells (at + n) file more place) (same_total at file c d first.0 second.0) second.1 in
    undamaged (at + needle_total (length c.bytes)) end place file cells more first.1 closed behind broken
