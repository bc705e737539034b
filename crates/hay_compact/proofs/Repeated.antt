-- A delete is repeated in the new file.
use Rattle.std.proofs.Common.{◌≡◌, inl, inr, ℕ, Bool, true, false, cond, eqb, List, [], drop, Option, Some, None, refl, sym, ap, ◌∙◌, subst, arith}
use Rattle.std.specs.Prelude.{option_map}
use Rattle.std.proofs.lemmas.Bool.{cases_Bool}
use Rattle.std.proofs.lemmas.List.Elements.{All-map, All-weaker}
use Rattle.hay_needle.specs.declared.needle.Cell.{Cell}
use Rattle.hay_needle.specs.declared.needle.Needle.{Needle}
use Rattle.hay_needle.specs.declared.needle.Pair.{Pair}
use Rattle.hay_needle.specs.declared.needle.Version.TheVariants.{Two}
use Rattle.hay_needle.specs.declared.settings.Super.{Super}
use Rattle.hay_needle.specs.Needle.{BeginsWithNeedle, needle_of_cell}
use Rattle.hay_needle.specs.Super.{super_bytes}
use Rattle.hay_needle.specs.Tables.{pair_eq}
use Rattle.hay_needle.proofs.TableLaws.{lacks_flag}
use Rattle.hay_disk.specs.Disk.{Files, FileState, KeepsOthers}
use Rattle.hay_volume.specs.declared.volume.VolumeFile.{VolumeFile}
use Rattle.hay_volume.specs.Cells.{HasPlace, IsVolume, needles_of, with_flag}
use Rattle.hay_volume.proofs.Readings.{cell_begins}
use Rattle.hay_index.specs.Records.{IsIndex}
use Rattle.hay_open.specs.Stored.{index_super, last_cell, volume_super}
use Rattle.hay_compact.specs.declared.standing.LastCell.{LastCell}
use Rattle.hay_compact.specs.Standing.{LastCells, last_in}
use Rattle.hay_compact.specs.Copying.{AreOfVersionTwo, Copying, IsMaking, Making, Repeats, Stage, kept_cell, photo_place}
use Rattle.hay_compact.proofs.CellLists.{flag_lacks, flagged_last, flagged_needles, flagged_records, lacks_none, last_place_of, last_stands}

-- what is kept where a pair has no cell
none_kept : (o : Option Cell) → option_map kept_cell o ≡ None → o ≡ None
none_kept None is = refl
none_kept (Some cell) is = absurd cc

-- and where it has one
kept_some : (o : Option Cell) (last : LastCell) → option_map kept_cell o ≡ Some last → (cell : Cell) × (o ≡ Some cell) × (cell.at ≡ last.at)
kept_some None last is = absurd cc
kept_some (Some cell) last is =
    let same : kept_cell cell ≡ last = cc in
    (cell, refl, ap (λ (l : LastCell). l.at) same)

-- a last cell that has a photo
pub photo_some : (o : Option Cell) (at : ℕ) → photo_place o ≡ Some at → (cell : Cell) × (o ≡ Some cell) × (cell.at ≡ at) × (cell.deleted ≡ false)
photo_some None at is = absurd cc
photo_some (Some cell) at is =
    elim (cases_Bool cell.deleted) [
      | inl deleted ↦ absurd (let e : None ≡ Some at = sym (ap (λ (b : Bool). cond b None (Some cell.at)) deleted) ∙ is in cc)
      | inr alive ↦ (cell, refl, (let e : Some cell.at ≡ Some at = sym (ap (λ (b : Bool). cond b None (Some cell.at)) alive) ∙ is in cc), alive)
    ]

-- where the pair has no cell a flag changes nothing
pub repeats_nothing : (sup : Super) (files : Files) (old : VolumeFile) (s : Stage) (current fresh : List Cell) (n : ℕ) (pair : Pair) → Copying sup files old s current fresh n
    → last_in s.standing pair ≡ None → Repeats sup files old s current fresh n pair
repeats_nothing sup files old s current fresh n pair h none = record {
  flagged = fresh;
  copying = h;
  needles = sym (lacks_flag pair (needles_of fresh) (lacks_none fresh pair (none_kept (last_cell fresh pair) (sym (h.places pair) ∙ none))));
}

-- the cell to flag stands in the new file
flag_stands : (sup : Super) (files : Files) (s : Stage) (fresh : List Cell) (last : LastCell) (pair : Pair) → Making sup files s fresh → last_in s.standing pair ≡ Some last
    → (needle : Needle) × BeginsWithNeedle (drop last.at (files s.volume.file).now) needle
flag_stands sup files s fresh last pair h is =
    let cell = kept_some (last_cell fresh pair) last (sym (h.places pair) ∙ is) in
    let stands = last_stands 64 s.volume.end (files s.volume.file).now fresh pair cell.0 h.volume_is.has cell.1 in
    (needle_of_cell cell.0, subst (λ k. BeginsWithNeedle (drop k (files s.volume.file).now) (needle_of_cell cell.0)) cell.2 (cell_begins cell.0.at (files s.volume.file).now cell.0 stands.0))

pub making_flag_stands : (files : Files) (s : Stage) (last : LastCell) (pair : Pair) → IsMaking files s → last_in s.standing pair ≡ Some last
    → (needle : Needle) × BeginsWithNeedle (drop last.at (files s.volume.file).now) needle
making_flag_stands files s last pair h is = flag_stands h.sup files s h.fresh last pair h.making is

-- a flag leaves each version
version_stays : (b deleted : Bool) (cell : Cell) → (cond b (record cell { deleted = deleted }) cell).version ≡ cell.version
version_stays true deleted cell = refl
version_stays false deleted cell = refl

flagged_anew : (at : ℕ) (deleted : Bool) (cells : List Cell) → AreOfVersionTwo cells → AreOfVersionTwo (with_flag at deleted cells)
flagged_anew at deleted cells are =
    let flag : Cell → Cell = λ (cell : Cell). cond (eqb cell.at at) (record cell { deleted = deleted }) cell in
    let IsAnew : Cell → Type 0 = λ (cell : Cell). cell.version ≡ Two in
    All-map IsAnew flag cells (All-weaker IsAnew (λ (cell : Cell). IsAnew (flag cell)) (λ (cell : Cell) is. version_stays (eqb cell.at at) deleted cell ∙ is) cells are)

-- what the flag makes of the new files
pub flag_makes : (sup : Super) (files later : Files) (s : Stage) (standing : LastCells) (fresh : List Cell) (last : LastCell) (pair : Pair) → Making sup files s fresh
    → last_in s.standing pair ≡ Some last
    → ((superblock : List ℕ) (cells : List Cell) (end : ℕ) → IsVolume superblock (files s.volume.file).now cells end → HasPlace last.at cells
    → IsVolume superblock (later s.volume.file).now (with_flag last.at true cells) end)
    → ((k : ℕ) → (files s.volume.file).sealed k ≡ false → (later s.volume.file).sealed k ≡ false) → KeepsOthers s.volume.file files later
    → ((other : Pair) → last_in standing other ≡ cond (pair_eq pair other) (Some (record last { deleted = true })) (last_in s.standing other))
    → Making sup later (record s { standing = standing }) (with_flag last.at true fresh)
flag_makes sup files later s standing fresh last pair h is flagged free others set = record {
  names_volume = h.names_volume;
  names_index = h.names_index;
  volume_is = flagged (super_bytes (volume_super sup s.generation)) fresh s.volume.end h.volume_is (subst (λ k. HasPlace k fresh) cell.2 (last_place_of fresh pair cell.0 cell.1));
  index_is = subst (λ (f : FileState). IsIndex (super_bytes (index_super sup s.generation)) f.now [] s.index.end) (sym index_stays) h.index_is;
  volume_free = λ k. free k (h.volume_free k);
  index_free = λ k. ap (λ (f : FileState). f.sealed k) index_stays ∙ h.index_free k;
  noted = h.noted ∙ sym (flagged_records last.at true fresh);
  anew = flagged_anew last.at true fresh h.anew;
  places = λ other.
      set other ∙ ap (λ (o : Option LastCell). cond (pair_eq pair other) (Some gone) o) (h.places other)
      ∙ by_test (pair_eq pair other) (last_cell fresh other)
      ∙ ap (option_map kept_cell) (sym (flagged_last s.volume.end (files s.volume.file).now fresh pair other cell.0 h.volume_is.has cell.1))
      ∙ ap (λ k. option_map kept_cell (last_cell (with_flag k true fresh) other)) cell.2;
  capacity_is = h.capacity_is;
}
  where
    cell : (cell : Cell) × (last_cell fresh pair ≡ Some cell) × (cell.at ≡ last.at)
    cell = kept_some (last_cell fresh pair) last (sym (h.places pair) ∙ is)

    gone : LastCell
    gone = record last { deleted = true }

    by_test : (b : Bool) (o : Option Cell) → cond b (Some gone) (option_map kept_cell o) ≡ option_map kept_cell (cond b (Some (record cell.0 { deleted = true })) o)
    by_test true o = ap (λ k. let l : LastCell = record { at = k; deleted = true } in Some l) (sym cell.2)
    by_test false o = refl

    index_stays : later s.index.file ≡ files s.index.file
    index_stays = others s.index.file (λ same. let a = h.names_volume in let b = h.names_index in absurd (omega arith))

pub repeats_flag : (sup : Super) (files later : Files) (old : VolumeFile) (s : Stage) (standing : LastCells) (current fresh : List Cell) (n : ℕ) (last : LastCell) (pair : Pair)
    → Copying sup files old s current fresh n → last_in s.standing pair ≡ Some last
    → KeepsOthers s.volume.file files later → Making sup later (record s { standing = standing }) (with_flag last.at true fresh)
    → Repeats sup later old (record s { standing = standing }) current fresh n pair
repeats_flag sup files later old s standing current fresh n last pair h is others made = record {
  flagged = with_flag last.at true fresh;
  copying = record {
    names_volume = made.names_volume;
    names_index = made.names_index;
    volume_is = made.volume_is;
    index_is = made.index_is;
    volume_free = made.volume_free;
    index_free = made.index_free;
    noted = made.noted;
    anew = made.anew;
    places = made.places;
    capacity_is = made.capacity_is;
    volume_apart = h.volume_apart;
    index_apart = h.index_apart;
    superblock = h.superblock;
    current_is = subst (λ (f : FileState). IsVolume h.superblock f.now current old.end) (sym (others old.file h.volume_apart)) h.current_is;
    within = h.within;
    next_is = h.next_is;
    known = λ other none. flag_lacks other last.at true fresh ∙ h.known other none;
  };
  needles = ap (λ k. needles_of (with_flag k true fresh)) (sym cell.2) ∙ flagged_needles s.volume.end (files s.volume.file).now fresh pair cell.0 h.volume_is.has cell.1;
}
  where
    cell : (cell : Cell) × (last_cell fresh pair ≡ Some cell) × (cell.at ≡ last.at)
    cell = kept_some (last_cell fresh pair) last (sym (h.places pair) ∙ is)
