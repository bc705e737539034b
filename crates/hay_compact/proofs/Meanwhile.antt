-- What is put and deleted in the current file while a compaction is under way. For the layer above.
use Rattle.std.proofs.Common.{◌≡◌, inl, inr, ◌≤◌, ◌+◌, ℕ, zero, suc, Bool, true, false, cond, eqb, List, [], ◌∷◌, ◌++◌, length, take, None, refl, sym, ap, ◌∙◌, subst, arith}
use Rattle.std.specs.Prelude.{sum_by}
use Rattle.std.proofs.lemmas.Bool.{cases_Bool}
use Rattle.std.proofs.lemmas.List.{length-append, length-map, map-append, take-append-le, drop_all}
use Rattle.std.proofs.lemmas.List.Sums.{sum_by-cons}
use Rattle.hay_needle.specs.declared.needle.Cell.{Cell}
use Rattle.hay_needle.specs.declared.needle.Needle.{Needle}
use Rattle.hay_needle.specs.declared.needle.Pair.{Pair}
use Rattle.hay_needle.specs.declared.settings.Super.{Super}
use Rattle.hay_needle.specs.Copies.{CopiesAt}
use Rattle.hay_needle.specs.Needle.{needle_of_cell}
use Rattle.hay_needle.specs.Super.{super_bytes}
use Rattle.hay_needle.specs.Tables.{flag_last, lacks, look, pair_eq, rows_of, table_of}
use Rattle.hay_needle.proofs.TableLaws.{flag_same, pair_same, table_of-same}
use Rattle.hay_needle.proofs.CopyLaws.{copies_append, copies_begin, copies_done, copies_flag_other, copies_repeat_other, copies_repeat_same}
use Rattle.hay_disk.specs.Disk.{Files, FileState}
use Rattle.hay_volume.specs.declared.volume.VolumeFile.{VolumeFile}
use Rattle.hay_volume.specs.Cells.{IsVolume, needles_of, with_flag}
use Rattle.hay_index.specs.Records.{IsIndex}
use Rattle.hay_open.specs.Stored.{index_super, last_cell, volume_super}
use Rattle.hay_compact.specs.Copying.{Copies, Copying, Stage, cell_total, end_of}
use Rattle.hay_compact.proofs.CellLists.{flag_lacks, lacks_none, lacks_parts, none_lacks}

-- The current file changed, and the new ones did not. The cells that were examined take up as much as before.
pub copying_current : (sup : Super) (files later : Files) (old next : VolumeFile) (s : Stage) (current changed fresh : List Cell) (n : ℕ) (superblock : List ℕ)
    → Copying sup files old s current fresh n
    → later s.volume.file ≡ files s.volume.file → later s.index.file ≡ files s.index.file → next.file ≡ old.file
    → IsVolume superblock (later next.file).now changed next.end → n ≤ length changed → end_of (take n changed) ≡ end_of (take n current)
    → ((pair : Pair) → lacks pair (needles_of changed) ≡ true → lacks pair (needles_of current) ≡ true) → Copying sup later next s changed fresh n
copying_current sup files later old next s current changed fresh n superblock h volume index file is within taken known = record {
  names_volume = h.names_volume;
  names_index = h.names_index;
  volume_is = subst (λ (f : FileState). IsVolume (super_bytes (volume_super sup s.generation)) f.now fresh s.volume.end) (sym volume) h.volume_is;
  index_is = subst (λ (f : FileState). IsIndex (super_bytes (index_super sup s.generation)) f.now [] s.index.end) (sym index) h.index_is;
  volume_free = λ k. ap (λ (f : FileState). f.sealed k) volume ∙ h.volume_free k;
  index_free = λ k. ap (λ (f : FileState). f.sealed k) index ∙ h.index_free k;
  noted = h.noted;
  anew = h.anew;
  places = h.places;
  capacity_is = h.capacity_is;
  volume_apart = λ same. h.volume_apart (sym file ∙ same);
  index_apart = λ same. h.index_apart (sym file ∙ same);
  superblock = superblock;
  current_is = is;
  within = within;
  next_is = h.next_is ∙ sym taken;
  known = λ pair none. h.known pair (known pair none);
}

-- a photo was put
pub copying_put : (sup : Super) (files later : Files) (old next : VolumeFile) (s : Stage) (current fresh : List Cell) (cell : Cell) (n : ℕ) (superblock : List ℕ)
    → Copying sup files old s current fresh n
    → later s.volume.file ≡ files s.volume.file → later s.index.file ≡ files s.index.file → next.file ≡ old.file
    → IsVolume superblock (later next.file).now (current ++ cell ∷ []) next.end → Copying sup later next s (current ++ cell ∷ []) fresh n
copying_put sup files later old next s current fresh cell n superblock h volume index file is =
    let within = h.within in
    copying_current sup files later old next s current (current ++ cell ∷ []) fresh n superblock h volume index file is (omega (arith, length-append current (cell ∷ [])))
    (ap end_of (take-append-le n current (cell ∷ []) within)) (λ pair none. (lacks_parts pair current (cell ∷ []) none).0)

pub copies_put : (fresh current : List Cell) (cell : Cell) (n : ℕ) → n ≤ length current → cell.deleted ≡ false → Copies fresh current n → Copies fresh (current ++ cell ∷ []) n
copies_put fresh current cell n within alive h = λ pair.
    subst (λ (l : List Needle). CopiesAt pair (needles_of fresh) l n) (sym (map-append needle_of_cell current (cell ∷ [])))
    (copies_append pair (needles_of fresh) (needles_of current) (needle_of_cell cell) n (omega (arith, length-map current needle_of_cell)) alive (h pair))

-- a flag leaves the places
flag_totals : (n at : ℕ) (deleted : Bool) (cells : List Cell) → sum_by cell_total (take n (with_flag at deleted cells)) ≡ sum_by cell_total (take n cells)
flag_totals zero at deleted cells = refl
flag_totals (suc n) at deleted [] = refl
flag_totals (suc n) at deleted (cell ∷ cells) =
    elim (eqb cell.at at) as (λ b. sum_by cell_total (cond b (record cell { deleted = deleted }) cell ∷ take n (with_flag at deleted cells)) ≡ sum_by cell_total (cell ∷ take n cells)) [
      | true ↦ sum_by-cons cell_total (record cell { deleted = deleted }) (take n (with_flag at deleted cells)) ∙ ap (λ k. cell_total cell + k) (flag_totals n at deleted cells)
          ∙ sym (sum_by-cons cell_total cell (take n cells))
      | false ↦ sum_by-cons cell_total cell (take n (with_flag at deleted cells)) ∙ ap (λ k. cell_total cell + k) (flag_totals n at deleted cells) ∙ sym (sum_by-cons cell_total cell (take n cells))
    ]

-- a photo was deleted in the current file
pub copying_delete : (sup : Super) (files later : Files) (old : VolumeFile) (s : Stage) (current fresh : List Cell) (n at : ℕ) (deleted : Bool) (superblock : List ℕ)
    → Copying sup files old s current fresh n
    → later s.volume.file ≡ files s.volume.file → later s.index.file ≡ files s.index.file
    → IsVolume superblock (later old.file).now (with_flag at deleted current) old.end → Copying sup later old s (with_flag at deleted current) fresh n
copying_delete sup files later old s current fresh n at deleted superblock h volume index is =
    let within = h.within in
    let long : length (with_flag at deleted current) ≡ length current = length-map current (λ (cell : Cell). cond (eqb cell.at at) (record cell { deleted = deleted }) cell) in
    copying_current sup files later old old s current (with_flag at deleted current) fresh n superblock h volume index refl is (omega arith)
    (ap (λ k. 64 + k) (flag_totals n at deleted current)) (λ pair none. sym (flag_lacks pair at deleted current) ∙ none)

-- then what holds of each other pair holds of it still
pub copies_deleted : (fresh current flagged : List Cell) (n : ℕ) (pair other : Pair) → needles_of flagged ≡ flag_last pair (needles_of current) → pair_eq pair other ≡ false
    → CopiesAt other (needles_of fresh) (needles_of current) n → CopiesAt other (needles_of fresh) (needles_of flagged) n
copies_deleted fresh current flagged n pair other is apart h =
    subst (λ (l : List Needle). CopiesAt other (needles_of fresh) l n) (sym is) (copies_flag_other other pair (needles_of fresh) (needles_of current) n apart h)

-- and of every pair once the delete is repeated
pub copies_repeated : (fresh current flagged repeated : List Cell) (n : ℕ) (pair : Pair) → needles_of flagged ≡ flag_last pair (needles_of current)
    → needles_of repeated ≡ flag_last pair (needles_of fresh)
    → ((other : Pair) → pair_eq pair other ≡ false → CopiesAt other (needles_of fresh) (needles_of flagged) n) → Copies repeated flagged n
copies_repeated fresh current flagged repeated n pair is again h = λ other.
    subst (λ (l : List Needle). CopiesAt other l (needles_of flagged) n) (sym again)
    (elim (cases_Bool (pair_eq pair other)) [
      | inr apart ↦ copies_repeat_other other pair (needles_of fresh) (needles_of flagged) n apart (h other apart)
      | inl same ↦
          let gone : look (rows_of (needles_of flagged)) pair ≡ look (rows_of (flag_last pair (needles_of current))) pair = ap (λ (l : List Needle). look (rows_of l) pair) is in
          subst (λ (p : Pair). CopiesAt p (flag_last pair (needles_of fresh)) (needles_of flagged) n) (pair_same pair other same)
          (copies_repeat_same pair (needles_of fresh) (needles_of flagged) n (gone ∙ flag_same pair (needles_of current)))
    ])

-- once all is examined the new file has the current one's table
pub copies_table : (fresh current : List Cell) (n : ℕ) → length current ≤ n → Copies fresh current n → table_of (needles_of fresh) ≡ table_of (needles_of current)
copies_table fresh current n all h =
    table_of-same (needles_of fresh) (needles_of current) (λ pair. copies_done pair (needles_of fresh) (needles_of current) n
    (drop_all n (needles_of current) (omega (arith, length-map current needle_of_cell))) (h pair))

-- at the beginning
pub copies_none : (current : List Cell) → Copies [] current 0
copies_none current = λ pair. copies_begin pair (needles_of current)

-- a pair that has no cell in the current file has none in the new one
pub known_cells : (sup : Super) (files : Files) (old : VolumeFile) (s : Stage) (current fresh : List Cell) (n : ℕ) (pair : Pair) → Copying sup files old s current fresh n
    → last_cell current pair ≡ None → last_cell fresh pair ≡ None
known_cells sup files old s current fresh n pair h none = none_lacks fresh pair (h.known pair (lacks_none current pair none))
