-- A byte of flags that is written over.
use Rattle.std.proofs.Common.{◌≡◌, ◌≢◌, ◌+◌, ◌-◌, ◌<◌, ◌≤◌, ◌^◌, min, ℕ, suc, Bool, true, false, eqb, List, [], ◌∷◌, ◌++◌, length, get_or, take, drop, refl, sym, ◌∙◌, ap, subst}
use Rattle.std.proofs.Common.{arith, inl, inr, append_assoc, take-append-drop, length-take, length-drop}
use Rattle.std.specs.Prelude.{not, slice_set, Some, Result, Ok, Err, OnOk}
use Rattle.std.specs.List.{slice_get}
use Rattle.std.proofs.Math.Seq.{take-set-lt}
use Rattle.std.proofs.lemmas.Bool.{cases_eq, eq-eqb, ne_eqb}
use Rattle.std.proofs.lemmas.Option.{slice_get-get_or}
use Rattle.std.proofs.lemmas.List.{get_or-set_same, length-set, length-append, set-append_left, set-append_right, set_split, take-set-le, drop-set-lt, drop-set-add, drop_more}
use Rattle.hay_needle.specs.declared.needle.Cell.{Cell}
use Rattle.hay_needle.specs.Needle.{BeginsWithNeedle, head_of_needle, needle_of_cell}
use Rattle.hay_needle.proofs.Needles.{length-head, length-needle, head_first, reflagged}
use Rattle.hay_needle.specs.declared.needle.Needle.{Needle}
use Rattle.hay_disk.specs.Disk.{FileState, IsImage, IsSolid, Changes, overwrite}
use Rattle.hay_disk.proofs.Images.{image_but_one}
use Rattle.hay_volume.specs.Cells.{IsCellAt, AreCellsAt, IsVolume, HasPlace, with_flag}

-- a cell takes up 48 bytes at least
long_cell : (at : ℕ) (needle : List ℕ) (cell : Cell) → IsCellAt at needle cell → 48 ≤ length needle
long_cell at needle cell is = omega (arith, length-needle needle (needle_of_cell cell) is.is)

-- the places of cells that stand behind a place
behind : (from at : ℕ) (bytes : List ℕ) (cells : List Cell) (deleted : Bool) → AreCellsAt from bytes cells → at < from → with_flag at deleted cells ≡ cells
behind from at bytes [] deleted are low = refl
behind from at bytes (cell ∷ cells) deleted are low =
    let other : cell.at ≢ at = λ e. let p = are.3.place in omega arith in
    rw (ne_eqb cell.at at other) (ap (λ (l : List Cell). cell ∷ l) (behind (from + length are.0) at are.1 cells deleted are.4 (omega arith)))

-- a place of one of the cells
pub placed : (from at : ℕ) (bytes : List ℕ) (cells : List Cell) → AreCellsAt from bytes cells → HasPlace at cells → (from ≤ at) × (at + 48 ≤ from + length bytes)
placed from at bytes [] are has = absurd has
placed from at bytes (cell ∷ cells) are (inl here) =
    let p = are.3.place in
    let l = long_cell from are.0 cell are.3 in
    (omega arith, omega (arith, ap length are.2, length-append are.0 are.1))
placed from at bytes (cell ∷ cells) are (inr later) =
    let p = placed (from + length are.0) at are.1 cells are.4 later in
    (omega (arith, p.0), omega (arith, p.1, ap length are.2, length-append are.0 are.1))

flag_cells : (from at k b : ℕ) (bytes : List ℕ) (cells : List Cell) → AreCellsAt from bytes cells → HasPlace at cells → k + from ≡ at + 28
    → AreCellsAt from (slice_set bytes k b) (with_flag at (not (eqb b 0)) cells)
flag_cells from at k b bytes [] are has same = absurd has
flag_cells from at k b bytes (cell ∷ cells) are has same =
    let needle : List ℕ = are.0 in
    let rest : List ℕ = are.1 in
    let long : 48 ≤ length needle = long_cell from needle cell are.3 in
    let deleted : Bool = not (eqb b 0) in
    elim (cases_eq cell.at at) [
      | inl here ↦
          let p = are.3.place in
          let is_28 : k ≡ 28 = omega arith in
          let parts : slice_set bytes k b ≡ slice_set needle 28 b ++ rest =
          ap (λ n. slice_set bytes n b) is_28 ∙ ap (λ (l : List ℕ). slice_set l 28 b) are.2 ∙ set-append_left needle rest 28 b (omega arith) in
          let flagged : Cell = record cell { deleted = deleted } in
          let others : with_flag at deleted cells ≡ cells = behind (from + length needle) at rest cells deleted are.4 (omega arith) in
          let list : with_flag at deleted (cell ∷ cells) ≡ flagged ∷ cells = rw (eq-eqb cell.at at here) (ap (λ (l : List Cell). flagged ∷ l) others) in
          let made : AreCellsAt from (slice_set bytes k b) (flagged ∷ cells) = (
            slice_set needle 28 b,
            rest,
            parts,
            record { place = are.3.place; is = reflagged needle (needle_of_cell cell) b are.3.is },
            subst (λ n. AreCellsAt (from + n) rest cells) (sym (length-set needle 28 b)) are.4,
          ) in
          subst (λ (l : List Cell). AreCellsAt from (slice_set bytes k b) l) (sym list) made
      | inr other ↦
          let p = are.3.place in
          let later : HasPlace at cells = elim has [ inl here ↦ absurd (other here) | inr more ↦ more ] in
          let range = placed (from + length needle) at rest cells are.4 later in
          let parts : slice_set bytes k b ≡ needle ++ slice_set rest (k - length needle) b =
          ap (λ (l : List ℕ). slice_set l k b) are.2 ∙ set-append_right needle rest (length needle) k b refl (omega (arith, range.0)) in
          let list : with_flag at deleted (cell ∷ cells) ≡ cell ∷ with_flag at deleted cells = rw (ne_eqb cell.at at other) refl in
          let made : AreCellsAt from (slice_set bytes k b) (cell ∷ with_flag at deleted cells) =
          (needle, slice_set rest (k - length needle) b, parts, are.3, flag_cells (from + length needle) at (k - length needle) b rest cells are.4 later (omega (arith, range.0))) in
          subst (λ (l : List Cell). AreCellsAt from (slice_set bytes k b) l) (sym list) made
    ]

-- with another byte of flags at a cell's place the file has the cells, that one deleted or not
pub flag_volume : (superblock file : List ℕ) (cells : List Cell) (end at b : ℕ) → IsVolume superblock file cells end → HasPlace at cells
    → IsVolume superblock (slice_set file (at + 28) b) (with_flag at (not (eqb b 0)) cells) end
flag_volume superblock file cells end at b is placed_at =
    let needles : List ℕ = is.has.needles in
    let range = placed 64 at needles cells is.has.are placed_at in
    let k : ℕ = at + 28 - 64 in
    let there : at + 28 ≡ 64 + k = omega (arith, range.0) in
    let inside : k < length needles = omega (arith, range.0, range.1) in
    let before : at + 28 < end = omega (arith, range.1, is.has.ends) in
    let changed : take (length needles) (drop 64 (slice_set file (at + 28) b)) ≡ slice_set needles k b =
    ap (λ n. take (length needles) (drop 64 (slice_set file n b))) there ∙ ap (λ (l : List ℕ). take (length needles) l) (drop-set-add 64 file k b)
    ∙ take-set-lt (length needles) (drop 64 file) k b inside ∙ ap (λ (l : List ℕ). slice_set l k b) is.has.stand in
    record {
      begins = take-set-le 64 file (at + 28) b (omega (arith, range.0)) ∙ is.begins;
      has = record {
        needles = slice_set needles k b;
        are = flag_cells 64 at k b needles cells is.has.are placed_at (omega (arith, range.0));
        stand = ap (λ n. take n (drop 64 (slice_set file (at + 28) b))) (length-set needles k b) ∙ changed;
        ends = omega (arith, length-set needles k b, is.has.ends);
      };
      closed = record {
        room = omega (arith, length-set file (at + 28) b, is.closed.room);
        shut = λ magic. is.closed.shut (ap (λ (l : List ℕ). take 8 l) (sym (drop-set-lt end file (at + 28) b before)) ∙ magic);
      };
    }

-- one byte written over another
pub one_byte : (at b : ℕ) (old new : List ℕ) → at < length old → new ≡ take at old ++ (b ∷ []) ++ drop (at + 1) old → new ≡ slice_set old at b
one_byte at b old new inside is =
    let next : at + 1 ≡ suc at = omega arith in
    is ∙ append_assoc (take at old) (b ∷ []) (drop (at + 1) old) ∙ ap (λ n. take at old ++ b ∷ drop n old) next ∙ sym (set_split old at b inside)

-- and read back
pub byte_there : (at b : ℕ) (old new : List ℕ) → at < length old → new ≡ overwrite at (b ∷ []) old → slice_get new at ≡ Some b
byte_there at b old new inside is =
    ap (λ (l : List ℕ). slice_get l at) (one_byte at b old new inside is) ∙ slice_get-get_or (slice_set old at b) at 0 (omega (arith, length-set old at b))
    ∙ ap (λ n. Some n) (get_or-set_same old at b 0 inside)

-- the place of the flags lies in the file
pub flags_within : (at : ℕ) (file : List ℕ) (n : Needle) → BeginsWithNeedle (drop at file) n → at + 28 < length file
flags_within at file n begins =
    omega (arith, length-head (take 36 (drop at file)) (head_of_needle n) (head_first (drop at file) n begins), length-take 36 (drop at file), length-drop at file)

-- the flag was written
pub flag_written : (superblock old new : List ℕ) (cells : List Cell) (end at : ℕ) → at + 28 < length old → new ≡ overwrite (at + 28) (1 ∷ []) old
    → IsVolume superblock old cells end → HasPlace at cells
    → IsVolume superblock new (with_flag at true cells) end
flag_written superblock old new cells end at inside is volume has =
    subst (λ (l : List ℕ). IsVolume superblock l (with_flag at true cells) end) (sym (one_byte (at + 28) 1 old new inside is)) (flag_volume superblock old cells end at 1 volume has)

-- a stop leaves the flag set or not
pub flag_left : (superblock : List ℕ) (old new : FileState) (image : List ℕ) (cells : List Cell) (end at : ℕ) → at + 28 < length old.now → IsSolid old → Changes (at + 28) 1 old new
    → IsImage new image → IsVolume superblock old.now cells end → HasPlace at cells
    → (deleted : Bool) × IsVolume superblock image (with_flag at deleted cells) end
flag_left superblock old new image cells end at inside solid changes leaves volume has =
    let byte = image_but_one (at + 28) old new image inside solid changes leaves in
    let next : at + 28 + 1 ≡ suc (at + 28) = omega arith in
    let is : image ≡ slice_set old.now (at + 28) byte.0 = byte.1 ∙ ap (λ n. take (at + 28) old.now ++ byte.0 ∷ drop n old.now) next ∙ sym (set_split old.now (at + 28) byte.0 inside) in
    (not (eqb byte.0 0), subst (λ (l : List ℕ). IsVolume superblock l (with_flag at (not (eqb byte.0 0)) cells) end) (sym is) (flag_volume superblock old.now cells end at byte.0 volume has))

-- the place of the flags is a number of 64 bits
pub flags_place : (at place : ℕ) (file : List ℕ) → at + 28 < length file → length file < 2 ^ 64 → place ≡ min (at + 28) 18446744073709551615 → place ≡ at + 28
flags_place at place file inside fits is = omega arith

pub changes_there : (at place : ℕ) (a b : FileState) → place ≡ at + 28 → Changes place 1 a b → Changes (at + 28) 1 a b
changes_there at place a b is changes = subst (λ k. Changes k 1 a b) is changes

pub written_there : (at place : ℕ) (bytes old new : List ℕ) → place ≡ at + 28 → new ≡ overwrite place bytes old → new ≡ overwrite (at + 28) bytes old
written_there at place bytes old new is written = subst (λ k. new ≡ overwrite k bytes old) is written

pub free_there : (at place k : ℕ) (file : FileState) → place ≡ at + 28 → place ≤ k → k < place + 1 → file.sealed (at + 28) ≡ false → file.sealed k ≡ false
free_there at place k file is from to free = subst (λ n. file.sealed n ≡ false) (let e : at + 28 ≡ k = omega arith in e) free

-- a change of that place alone leaves the flag set or not
pub flag_either : (superblock : List ℕ) (old new : FileState) (cells : List Cell) (end at : ℕ) → at + 28 < length old.now → Changes (at + 28) 1 old new
    → IsVolume superblock old.now cells end → HasPlace at cells
    → (deleted : Bool) × IsVolume superblock new.now (with_flag at deleted cells) end
flag_either superblock old new cells end at inside changes volume has =
    let byte : ℕ = get_or new.now (at + 28) 0 in
    let next : at + 28 + 1 ≡ suc (at + 28) = omega arith in
    let long : at + 28 < length new.now = omega (arith, changes.grows) in
    let is : new.now ≡ slice_set old.now (at + 28) byte =
    sym (take-append-drop (at + 28) new.now) ∙ ap (λ (l : List ℕ). l ++ drop (at + 28) new.now) changes.before
    ∙ ap (λ (l : List ℕ). take (at + 28) old.now ++ l) (drop_more new.now (at + 28) 0 long ∙ ap (λ (l : List ℕ). byte ∷ l) changes.after)
    ∙ ap (λ n. take (at + 28) old.now ++ byte ∷ drop n old.now) next ∙ sym (set_split old.now (at + 28) byte inside) in
    (not (eqb byte 0), subst (λ (l : List ℕ). IsVolume superblock l (with_flag at (not (eqb byte 0)) cells) end) (sym is) (flag_volume superblock old.now cells end at byte volume has))

-- what follows at `Ok`
pub on_ok : {T E : Type 0} (r : Result T E) (P Q : Type 0) → (P → Q) → OnOk r P → OnOk r Q
on_ok (Ok value) P Q follows holds = follows holds
on_ok (Err fault) P Q follows holds = tt
