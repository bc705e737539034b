-- Ranges of a volume file in which needles stand, and what changes leave of them.
use Rattle.std.proofs.Common.{◌≡◌, ◌⊎◌, inl, inr, ℕ, ◌+◌, ◌≤◌, false, List, [], ◌∷◌, length, take, drop, sym, ◌∙◌, ap, subst, arith}
use Rattle.std.specs.List.{AllByRecursion}
use Rattle.std.proofs.lemmas.List.{drop-take}
use Rattle.hay_needle.specs.declared.needle.Cell.{Cell}
use Rattle.hay_needle.specs.Needle.{needle_of_cell}
use Rattle.hay_needle.specs.Sizes.{needle_total}
use Rattle.hay_needle.proofs.Needles.{length-needle}
use Rattle.hay_disk.specs.Disk.{FileState, IsOutside, IsSolid, IsSolidIn, Changes, Seals}
use Rattle.hay_disk.specs.Gate.{HasBytesAt}
use Rattle.hay_disk.proofs.Steps.{fronts, rests}
use Rattle.hay_volume.specs.Cells.{AreCellsAt, HasCells, HasPlace, StandsCell}
use Rattle.hay_volume.proofs.FlagLaws.{placed}
use Rattle.hay_volume.proofs.Readings.{cells_first}
use Rattle.hay_open.specs.Stored.{FlagsFree}
use Rattle.hay_physical.specs.Replicas.{KeepsBefore, MayLook}

-- BEFORE A PLACE

pub before_same : (end : ℕ) (old new : FileState) → new ≡ old → KeepsBefore end old new
before_same end old new same = record {
  now = ap (λ (f : FileState). take end f.now) same;
  grows = omega (arith, ap (λ (f : FileState). length f.now) same);
  solid = λ k low was. ap (λ (f : FileState). f.loose k) same ∙ was;
  free = λ k low was. ap (λ (f : FileState). f.sealed k) same ∙ was;
}

pub before_changes : (end at n : ℕ) (old new : FileState) → end ≤ at → Changes at n old new → KeepsBefore end old new
before_changes end at n old new low is = record {
  now = fronts at end old.now new.now low is.before;
  grows = is.grows;
  solid = λ k within was. is.solid k was (inl (omega arith));
  free = λ k within was. is.free k was;
}

pub before_seals : (end at n hole : ℕ) (old new : FileState) → end ≤ at → Seals at n hole old new → KeepsBefore end old new
before_seals end at n hole old new low is = record {
  now = ap (λ (l : List ℕ). take end l) is.now;
  grows = omega (arith, ap length is.now);
  solid = λ k within was. is.solid k was;
  free = λ k within was. is.free k was (inl (inl (omega arith)));
}

pub before_before : (end : ℕ) (a b c : FileState) → KeepsBefore end a b → KeepsBefore end b c → KeepsBefore end a c
before_before end a b c first second = record {
  now = second.now ∙ first.now;
  grows = omega (arith, first.grows, second.grows);
  solid = λ k low was. second.solid k low (first.solid k low was);
  free = λ k low was. second.free k low (first.free k low was);
}

-- IN A RANGE

-- The bytes stay, what is solid stays so, and the flags of a needle there may still be written.
pub record KeepsRange (at n : ℕ) (old new : FileState) : Type 0 where
  pub now : take n (drop at new.now) ≡ take n (drop at old.now)
  pub grows : length old.now ≤ length new.now
  pub solid : IsSolidIn at n old → IsSolidIn at n new
  pub free : old.sealed (at + 28) ≡ false → new.sealed (at + 28) ≡ false

pub range_same : (at n : ℕ) (old new : FileState) → new ≡ old → KeepsRange at n old new
range_same at n old new same = record {
  now = ap (λ (f : FileState). take n (drop at f.now)) same;
  grows = omega (arith, ap (λ (f : FileState). length f.now) same);
  solid = λ was k from to. ap (λ (f : FileState). f.loose k) same ∙ was k from to;
  free = λ was. ap (λ (f : FileState). f.sealed (at + 28)) same ∙ was;
}

same_part : (at n end : ℕ) (xs ys : List ℕ) → at + n ≤ end → take end ys ≡ take end xs → take n (drop at ys) ≡ take n (drop at xs)
same_part at n end xs ys within same =
    sym (drop-take at n ys) ∙ ap (λ (l : List ℕ). drop at l) (fronts end (at + n) xs ys within same) ∙ drop-take at n xs

pub range_before : (at n end : ℕ) (old new : FileState) → at + n ≤ end → 29 ≤ n → KeepsBefore end old new → KeepsRange at n old new
range_before at n end old new within long is = record {
  now = same_part at n end old.now new.now within is.now;
  grows = is.grows;
  solid = λ was k from to. is.solid k (omega arith) (was k from to);
  free = λ was. is.free (at + 28) (omega arith) was;
}

-- a flag that is none of its bytes
pub range_apart : (at n place : ℕ) (old new : FileState) → IsOutside at n (place + 28) → Changes (place + 28) 1 old new → KeepsRange at n old new
range_apart at n place old new (inl below) is = record {
  now = ap (λ (l : List ℕ). take n l) (rests (place + 28 + 1) at old.now new.now (omega arith) is.after);
  grows = is.grows;
  solid = λ was k from to. is.solid k (was k from to) (inr (omega arith));
  free = λ was. is.free (at + 28) was;
}
range_apart at n place old new (inr above) is = record {
  now = same_part at n (place + 28) old.now new.now above is.before;
  grows = is.grows;
  solid = λ was k from to. is.solid k (was k from to) (inl (omega arith));
  free = λ was. is.free (at + 28) was;
}

-- a piece that was given out
pub range_sealed : (at n place long : ℕ) (old new : FileState) → Seals place long 28 old new → IsOutside place long (at + 28) ⊎ (at ≡ place) → KeepsRange at n old new
range_sealed at n place long old new is (inl apart) = record {
  now = ap (λ (l : List ℕ). take n (drop at l)) is.now;
  grows = omega (arith, ap length is.now);
  solid = λ was k from to. is.solid k (was k from to);
  free = λ was. is.free (at + 28) was (inl apart);
}
range_sealed at n place long old new is (inr own) = record {
  now = ap (λ (l : List ℕ). take n (drop at l)) is.now;
  grows = omega (arith, ap length is.now);
  solid = λ was k from to. is.solid k (was k from to);
  free = λ was. is.free (at + 28) was (inr (ap (λ k. k + 28) own));
}

-- CELLS

pub look_kept : (at size end later : ℕ) (old new : FileState) → end ≤ later → KeepsRange at (needle_total size) old new → MayLook old end at size → MayLook new later at size
look_kept at size end later old new grows is may = record {
  within = omega (arith, may.within);
  inside = omega (arith, may.inside, is.grows);
  solid = is.solid may.solid;
  free = is.free may.free;
}

pub cell_kept : (at : ℕ) (old new : FileState) (cell : Cell) → KeepsRange at (needle_total (length cell.bytes)) old new → StandsCell at old.now cell → StandsCell at new.now cell
cell_kept at old new cell is here =
    let long : length here.needle ≡ needle_total (length cell.bytes) = length-needle here.needle (needle_of_cell cell) here.is.is in
    let stand : HasBytesAt at here.needle new.now =
    ap (λ k. take k (drop at new.now)) long ∙ is.now ∙ ap (λ k. take k (drop at old.now)) (sym long) ∙ here.stand in
    record { needle = here.needle; is = here.is; stand = stand }

-- The cell stands in the file, and may be looked at.
pub record LooksAt (file : FileState) (end : ℕ) (cell : Cell) : Type 0 where
  pub may : MayLook file end cell.at (length cell.bytes)
  pub stands : StandsCell cell.at file.now cell

-- each cell of a file of which nothing is loose
pub all_look : (from end : ℕ) (file : FileState) (cells : List Cell) → HasCells from file.now cells end → end ≤ length file.now → IsSolid file → FlagsFree file cells
    → AllByRecursion (LooksAt file end) cells
all_look from end file [] has within solid free = tt
all_look from end file (cell ∷ cells) has within solid free =
    let first = cells_first from end file.now cell cells has in
    let place : cell.at ≡ from = first.0.is.place in
    let there : StandsCell cell.at file.now cell = subst (λ k. StandsCell k file.now cell) (sym place) first.0 in
    let inside : cell.at + needle_total (length cell.bytes) ≤ end = omega (arith, place, first.1.ends) in (
      record { may = record { within = inside; inside = omega arith; solid = λ k low high. solid.places k; free = free.0 }; stands = there },
      all_look (from + needle_total (length cell.bytes)) end file cells first.1 within solid free.1,
    )

pub all_so : (P Q : Cell → Type 0) (cells : List Cell) → ((cell : Cell) → P cell → Q cell) → AllByRecursion P cells → AllByRecursion Q cells
all_so P Q [] makes all = tt
all_so P Q (cell ∷ cells) makes all = (makes cell all.0, all_so P Q cells makes all.1)

-- FLAGS BESIDE A PIECE

flags_after : (from at n : ℕ) (bytes : List ℕ) (cells : List Cell) (old new : FileState) → AreCellsAt from bytes cells → at + n ≤ from → Seals at n 28 old new → FlagsFree old cells
    → FlagsFree new cells
flags_after from at n bytes [] old new are far seals free = tt
flags_after from at n bytes (cell ∷ cells) old new are far seals free =
    let place : cell.at ≡ from = are.3.place in (
      seals.free (cell.at + 28) free.0 (inl (inr (omega arith))),
      flags_after (from + length are.0) at n are.1 cells old new are.4 (omega arith) seals free.1,
    )

-- the piece is the needle of one of the cells
pub flags_beside : (from end at n : ℕ) (cells : List Cell) (old new : FileState) → HasCells from old.now cells end → HasPlace at cells
    → ((cell : Cell) → StandsCell at old.now cell → needle_total (length cell.bytes) ≡ n)
    → Seals at n 28 old new → FlagsFree old cells → FlagsFree new cells
flags_beside from end at n [] old new has there total seals free = absurd there
flags_beside from end at n (cell ∷ cells) old new has (inl here) total seals free =
    let first = cells_first from end old.now cell cells has in
    let place : cell.at ≡ from = first.0.is.place in
    let long : needle_total (length cell.bytes) ≡ n = total cell (subst (λ k. StandsCell k old.now cell) (sym place ∙ here) first.0) in (
      seals.free (cell.at + 28) free.0 (inr (ap (λ k. k + 28) here)),
      flags_after (from + needle_total (length cell.bytes)) at n first.1.needles cells old new first.1.are (omega (arith, long, here, place)) seals free.1,
    )
flags_beside from end at n (cell ∷ cells) old new has (inr later) total seals free =
    let first = cells_first from end old.now cell cells has in
    let place : cell.at ≡ from = first.0.is.place in
    let range = placed (from + needle_total (length cell.bytes)) at first.1.needles cells first.1.are later in (
      seals.free (cell.at + 28) free.0 (inl (inl (omega (arith, range.0, place)))),
      flags_beside (from + needle_total (length cell.bytes)) end at n cells old new first.1 later total seals free.1,
    )
