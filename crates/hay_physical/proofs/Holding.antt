-- What an opening may find on a disk, whatever a stop leaves.
use Rattle.std.proofs.Common.{◌≡◌, ◌⊎◌, inl, inr, ⊎_elim, ℕ, ◌+◌, ◌≤◌, Bool, true, false, List, [], ◌∷◌, ◌++◌, length, take, refl, sym, ap, subst, arith, length-append, append-nil}
use Rattle.std.specs.Prelude.{map}
use Rattle.std.proofs.lemmas.List.{map-append}
use Rattle.hay_needle.specs.declared.needle.Cell.{Cell}
use Rattle.hay_needle.specs.declared.needle.Cookie.{Cookie}
use Rattle.hay_needle.specs.declared.needle.Pair.{Pair}
use Rattle.hay_needle.specs.declared.settings.Super.{Super}
use Rattle.hay_needle.specs.Sizes.{needle_total}
use Rattle.hay_needle.specs.Super.{super_bytes}
use Rattle.hay_disk.specs.Disk.{Files, FileState, IsImage, IsSolid, IsSolidIn, KeepsOthers, MayLeave}
use Rattle.hay_disk.proofs.Images.{solid_whole}
use Rattle.hay_head.specs.Head.{IsHead}
use Rattle.hay_volume.specs.declared.volume.VolumeFile.{VolumeFile}
use Rattle.hay_volume.specs.Cells.{HasPlace, IsVolume, live_cell, with_flag}
use Rattle.hay_index.specs.declared.record.Record.{Record}
use Rattle.hay_index.specs.Records.{IsIndex}
use Rattle.hay_open.specs.Stored.{HeadRests, IsStored, OpensAs, Stored, cell_record, head_super, index_file, index_super, volume_file, volume_super}
use Rattle.hay_physical.specs.declared.state.OpenFiles.{OpenFiles}
use Rattle.hay_physical.specs.Replicas.{FilesStand, Finds, HasLive, IndexStands, IsLike, MayFind, with_cell, without_cell}
use Rattle.hay_physical.proofs.CellRows.{length-with_flag, live_place, not_flagged}
use Rattle.hay_physical.proofs.Standing.{flagged_rows, index_not_volume, same_records, volume_not_head}

-- the records of an image of the index
pub record Records (sup : Super) (image : List ℕ) (s : Stored) (stuck : Bool) : Type 0 where
  pub records : ℕ
  pub end : ℕ
  pub fewer : s.records ≤ records
  pub lags : records ≤ length s.cells
  pub same : stuck ≡ false → records ≡ s.records
  pub is : IsIndex (super_bytes (index_super sup s.generation)) image (take records (map cell_record s.cells)) end

pub image_index : (sup : Super) (file : FileState) (s : Stored) (end : ℕ) (stuck : Bool) (image : List ℕ) → s.records ≤ length s.cells → IndexStands sup file s end stuck
    → IsImage file image → Records sup image s stuck
image_index sup file s end false image lags index leaves = record {
  records = s.records;
  end = end;
  fewer = omega arith;
  lags = lags;
  same = λ live. refl;
  is = subst (λ (l : List ℕ). IsIndex (super_bytes (index_super sup s.generation)) l (take s.records (map cell_record s.cells)) end) (sym (solid_whole file image index.solid leaves)) index.is;
}
image_index sup file s end true image lags index leaves =
    let h = index image leaves in
    record { records = h.records; end = h.end; fewer = h.fewer; lags = h.lags; same = λ live. absurd (apart live); is = h.is }
  where
    apart : true ≡ false → ⊥
    apart e = cc

-- In each image the volume file has the cells, or those behind a change, and the index the records of the first of them.
pub may_find : (sup : Super) (files : Files) (s : Stored) (changed : List Cell) (last end : ℕ) (stuck : Bool) (more : List Record) → s.records ≤ length s.cells → length s.cells ≤ length changed
    → map cell_record changed ≡ map cell_record s.cells ++ more → HeadRests sup (files 0) s.generation
    → ((image : List ℕ) → IsImage (files (volume_file s.generation)) image
    → IsVolume (super_bytes (volume_super sup s.generation)) image s.cells s.end ⊎ IsVolume (super_bytes (volume_super sup s.generation)) image changed last)
    → IndexStands sup (files (index_file s.generation)) s end stuck → MayFind sup files stuck s (record s { cells = changed; end = last })
unfolding MayFind
may_find sup files s changed last end stuck more lags longs rows head volume index = λ image leaves.
    let g : ℕ = s.generation in
    let first : IsHead (super_bytes (head_super sup)) (image 0) g =
    subst (λ (l : List ℕ). IsHead (super_bytes (head_super sup)) l g) (sym (solid_whole (files 0) (image 0) head.solid (leaves 0))) head.is in
    let r = image_index sup (files (index_file g)) s end stuck (image (index_file g)) lags index (leaves (index_file g)) in
    elim (volume (image (volume_file g)) (leaves (volume_file g))) [
      | inl same ↦ record {
        found = record s { records = r.records };
        is = record { head = first; volume = same; lags = r.lags; index_end = r.end; index = r.is };
        like = inl (record { cells = refl; end = refl; generation = refl; fewer = r.fewer; same = r.same });
      }
      | inr there ↦ record {
        found = record { cells = changed; end = last; records = r.records; generation = g };
        is = record {
          head = first;
          volume = there;
          lags = omega (arith, r.lags, longs);
          index_end = r.end;
          index = subst (λ (l : List Record). IsIndex (super_bytes (index_super sup g)) (image (index_file g)) l r.end) (sym (same_records r.records s.cells changed more rows r.lags)) r.is;
        };
        like = inr (record { cells = refl; end = refl; generation = refl; fewer = r.fewer; same = r.same });
      }
    ]

-- where all stands an opening finds it
pub stand_finds : (sup : Super) (files : Files) (opened : OpenFiles) (s : Stored) → FilesStand sup files opened s → MayFind sup files opened.index.frozen s s
stand_finds sup files opened s f =
    may_find sup files s s.cells s.end opened.index.end opened.index.frozen [] f.lags (omega arith) (sym (append-nil (map cell_record s.cells))) f.head
    (λ image leaves. inl (subst (λ (l : List ℕ). IsVolume (super_bytes (volume_super sup s.generation)) l s.cells s.end)
    (sym (solid_whole (files (volume_file s.generation)) image f.cells.solid leaves)) f.cells.is))
    f.index

-- what is found in one way is found in one of two
pub finds_second : (sup : Super) (files : Files) (stuck : Bool) (s t : Stored) → MayFind sup files stuck t t → MayFind sup files stuck s t
unfolding MayFind
finds_second sup files stuck s t finds = λ image leaves.
    let f = finds image leaves in
    record { found = f.found; is = f.is; like = inr (⊎_elim (λ (l : IsLike stuck t f.found). l) (λ (l : IsLike stuck t f.found). l) f.like) }

-- an append that failed
pub finds_added : (sup : Super) (old new : Files) (opened : OpenFiles) (s : Stored) (pair : Pair) (cookie : Cookie) (photo : List ℕ) → FilesStand sup old opened s
    → KeepsOthers opened.volume.file old new
    → ((superblock : List ℕ) (cells : List Cell) (image : List ℕ) → IsVolume superblock (old opened.volume.file).now cells opened.volume.end
    → IsSolidIn 0 opened.volume.end (old opened.volume.file) → IsImage (new opened.volume.file) image
    → IsVolume superblock image cells opened.volume.end ⊎ IsVolume superblock image (cells ++ live_cell opened.volume.end pair cookie photo ∷ []) (opened.volume.end + needle_total (length photo)))
    → MayFind sup new opened.index.frozen s (with_cell s pair cookie photo)
finds_added sup old new opened s pair cookie photo f others_was left_was =
    let file : ℕ = volume_file s.generation in
    let others : KeepsOthers file old new = subst (λ (v : VolumeFile). KeepsOthers v.file old new) f.volume others_was in
    let cell : Cell = live_cell s.end pair cookie photo in
    let left : (superblock : List ℕ) (cells : List Cell) (image : List ℕ) → IsVolume superblock (old file).now cells s.end → IsSolidIn 0 s.end (old file) → IsImage (new file) image
    → IsVolume superblock image cells s.end ⊎ IsVolume superblock image (cells ++ cell ∷ []) (s.end + needle_total (length photo)) =
    subst (λ (v : VolumeFile). (superblock : List ℕ) (cells : List Cell) (image : List ℕ) → IsVolume superblock (old v.file).now cells v.end → IsSolidIn 0 v.end (old v.file)
    → IsImage (new v.file) image
    → IsVolume superblock image cells v.end ⊎ IsVolume superblock image (cells ++ live_cell v.end pair cookie photo ∷ []) (v.end + needle_total (length photo))) f.volume left_was in
    may_find sup new s (s.cells ++ cell ∷ []) (s.end + needle_total (length photo)) opened.index.end opened.index.frozen (cell_record cell ∷ []) f.lags
    (omega (arith, length-append s.cells (cell ∷ [])))
    (map-append cell_record s.cells (cell ∷ []))
    (subst (λ (state : FileState). HeadRests sup state s.generation) (sym (others 0 (volume_not_head s.generation))) f.head)
    (λ image leaves. left (super_bytes (volume_super sup s.generation)) s.cells image f.cells.is (λ k from to. f.cells.solid.places k) leaves)
    (subst (λ (state : FileState). IndexStands sup state s opened.index.end opened.index.frozen) (sym (others (index_file s.generation) (index_not_volume s.generation))) f.index)

-- a flag that failed
pub finds_flagged : (sup : Super) (old new : Files) (opened : OpenFiles) (s : Stored) (at : ℕ) → FilesStand sup old opened s → HasLive at s.cells → KeepsOthers opened.volume.file old new
    → ((superblock : List ℕ) (cells : List Cell) (end : ℕ) (image : List ℕ) → IsVolume superblock (old opened.volume.file).now cells end → HasPlace at cells
    → IsSolid (old opened.volume.file) → IsImage (new opened.volume.file) image
    → (deleted : Bool) × IsVolume superblock image (with_flag at deleted cells) end)
    → MayFind sup new opened.index.frozen s (without_cell s at)
finds_flagged sup old new opened s at f live others_was left_was =
    let file : ℕ = volume_file s.generation in
    let others : KeepsOthers file old new = subst (λ (v : VolumeFile). KeepsOthers v.file old new) f.volume others_was in
    let superblock : List ℕ = super_bytes (volume_super sup s.generation) in
    let left : (superblock : List ℕ) (cells : List Cell) (end : ℕ) (image : List ℕ) → IsVolume superblock (old file).now cells end → HasPlace at cells → IsSolid (old file) → IsImage (new file) image
    → (deleted : Bool) × IsVolume superblock image (with_flag at deleted cells) end =
    subst (λ (v : VolumeFile). (superblock : List ℕ) (cells : List Cell) (end : ℕ) (image : List ℕ) → IsVolume superblock (old v.file).now cells end → HasPlace at cells
    → IsSolid (old v.file) → IsImage (new v.file) image
    → (deleted : Bool) × IsVolume superblock image (with_flag at deleted cells) end) f.volume left_was in
    may_find sup new s (with_flag at true s.cells) s.end opened.index.end opened.index.frozen [] f.lags (omega (arith, length-with_flag at true s.cells))
    (flagged_rows at s.cells)
    (subst (λ (state : FileState). HeadRests sup state s.generation) (sym (others 0 (volume_not_head s.generation))) f.head)
    (λ image leaves.
    let found = left superblock s.cells s.end image f.cells.is (live_place at s.cells live) f.cells.solid leaves in
    either superblock image found.0 found.1)
    (subst (λ (state : FileState). IndexStands sup state s opened.index.end opened.index.frozen) (sym (others (index_file s.generation) (index_not_volume s.generation))) f.index)
  where
    either : (superblock image : List ℕ) (deleted : Bool) → IsVolume superblock image (with_flag at deleted s.cells) s.end
        → IsVolume superblock image s.cells s.end ⊎ IsVolume superblock image (with_flag at true s.cells) s.end
    either superblock image true volume = inr volume
    either superblock image false volume = inl (subst (λ (cells : List Cell). IsVolume superblock image cells s.end) (not_flagged 64 at f.cells.is.has.needles s.cells f.cells.is.has.are live) volume)

-- STOPS

-- the same files
pub finds_same : (sup : Super) (old new : Files) (stuck : Bool) (s t : Stored) → new ≡ old → MayFind sup old stuck s t → MayFind sup new stuck s t
finds_same sup old new stuck s t same finds = subst (λ (files : Files). MayFind sup files stuck s t) (sym same) finds

-- files of which nothing is loose, and that are what might have been left before
pub finds_left : (sup : Super) (old new : Files) (stuck : Bool) (s t : Stored) → MayLeave old (λ n. (new n).now) → ((n : ℕ) → IsSolid (new n)) → MayFind sup old stuck s t → MayFind sup new stuck s t
unfolding MayFind
finds_left sup old new stuck s t left solid finds = λ image leaves.
    finds image (λ n. subst (λ (l : List ℕ). IsImage (old n) l) (sym (solid_whole (new n) (image n) (solid n) (leaves n))) (left n))

-- what an opening finds now
pub finds_now : (sup : Super) (files : Files) (stuck : Bool) (s t : Stored) → MayLeave files (λ n. (files n).now) → MayFind sup files stuck s t → Finds sup (λ n. (files n).now) stuck s t
unfolding MayFind
finds_now sup files stuck s t left finds = finds (λ n. (files n).now) left

pub finds_opens : (sup : Super) (contents : ℕ → List ℕ) (stuck : Bool) (s t : Stored) (f : Finds sup contents stuck s t) → OpensAs sup contents f.found
unfolding OpensAs
finds_opens sup contents stuck s t f = inr f.is

-- a disk that was formatted is not void
pub not_void : (sup : Super) (contents : ℕ → List ℕ) (s : Stored) → IsStored sup contents s → contents 0 ≡ [] → ⊥
not_void sup contents s is void = omega (arith, is.head.closed.room, ap length void)
