-- A volume file with the cells of a batch.
use Rattle.std.proofs.Common.{◌≡◌, ◌⊎◌, inl, inr, ⊎_elim, ◌+◌, ℕ, List, ◌++◌, length, drop, sym, ◌∙◌, ap, subst, arith, length-append, append_assoc}
use Rattle.hay_needle.specs.declared.needle.Cell.{Cell}
use Rattle.hay_needle.specs.Needle.{needle_magic}
use Rattle.hay_disk.specs.Disk.{FileState, IsImage, IsSolidIn}
use Rattle.hay_disk.specs.Gate.{record_of, EndsInMark, IsLog, LogGrows, LogStays}
use Rattle.hay_volume.specs.Cells.{AreCellsAt, IsVolume}
use Rattle.hay_volume.proofs.CellLaws.{volume_log, log_volume, length-superblock}
use Rattle.hay_batch.specs.declared.photo.NewPhoto.{NewPhoto}
use Rattle.hay_batch.specs.Batches.{batch_total, new_cells}
use Rattle.hay_batch.proofs.NeedleRuns.{IsBody, cells_append, length-needles}

pub ends_in_mark : (body : List ℕ) (photos : List NewPhoto) → IsBody body photos → EndsInMark body
ends_in_mark body photos made = (drop 8 made.needles, made.parts)

front_length : (superblock file : List ℕ) (cells : List Cell) (end : ℕ) (is : IsVolume superblock file cells end) → length (superblock ++ is.has.needles) ≡ end
front_length superblock file cells end is = omega (arith, length-append superblock is.has.needles, is.has.ends, length-superblock superblock file cells end is)

-- the log with the record is the volume file with the cells
with_cells : (superblock file image : List ℕ) (cells : List Cell) (end : ℕ) (photos : List NewPhoto) (body : List ℕ) (made : IsBody body photos) (is : IsVolume superblock file cells end)
    → IsLog needle_magic ((superblock ++ is.has.needles) ++ record_of needle_magic (drop 8 made.needles)) image
    → IsVolume superblock image (cells ++ new_cells end photos) (end + batch_total photos)
with_cells superblock file image cells end photos body made is log =
    let old : List ℕ = is.has.needles in
    let fresh : List ℕ = made.needles in
    let whole : (superblock ++ old) ++ record_of needle_magic (drop 8 fresh) ≡ superblock ++ (old ++ fresh) =
    ap (λ (l : List ℕ). (superblock ++ old) ++ l) (sym made.begins) ∙ append_assoc superblock old fresh in
    log_volume superblock (old ++ fresh) image (cells ++ new_cells end photos) (end + batch_total photos)
    (length-superblock superblock file cells end is)
    (omega (arith, length-append old fresh, is.has.ends, length-needles fresh photos made.are))
    (cells_append 64 old fresh cells (new_cells end photos) is.has.are (subst (λ k. AreCellsAt k fresh (new_cells end photos)) (sym is.has.ends) (made.are end)))
    (subst (λ (l : List ℕ). IsLog needle_magic l image) whole log)

-- the log without it is the volume file as it was
without_cells : (superblock file image : List ℕ) (cells : List Cell) (end : ℕ) (is : IsVolume superblock file cells end) → IsLog needle_magic (superblock ++ is.has.needles) image
    → IsVolume superblock image cells end
without_cells superblock file image cells end is log =
    log_volume superblock is.has.needles image cells end (length-superblock superblock file cells end is) is.has.ends is.has.are log

pub volume_grows : (superblock old new : List ℕ) (cells : List Cell) (end need : ℕ) (photos : List NewPhoto) (body : List ℕ) → need ≡ batch_total photos → IsBody body photos
    → LogGrows needle_magic end body old new
    → IsVolume superblock old cells end → IsVolume superblock new (cells ++ new_cells end photos) (end + need)
volume_grows superblock old new cells end need photos body needs made grows is =
    subst (λ n. IsVolume superblock new (cells ++ new_cells end photos) (end + n)) (sym needs)
    (with_cells superblock old new cells end photos body made is
    (grows.longer (superblock ++ is.has.needles) (drop 8 made.needles) (front_length superblock old cells end is) made.parts (volume_log superblock old cells end is)))

pub volume_stays : (superblock : List ℕ) (old new : FileState) (image : List ℕ) (cells : List Cell) (end : ℕ) (photos : List NewPhoto) (body : List ℕ) → IsBody body photos
    → LogStays needle_magic end body old new
    → IsVolume superblock old.now cells end → IsSolidIn 0 end old → IsImage new image
    → IsVolume superblock image cells end ⊎ IsVolume superblock image (cells ++ new_cells end photos) (end + batch_total photos)
volume_stays superblock old new image cells end photos body made stays is solid leaves =
    ⊎_elim
    (λ log. inl (without_cells superblock old.now image cells end is log))
    (λ log. inr (with_cells superblock old.now image cells end photos body made is log))
    (stays.image (superblock ++ is.has.needles) (drop 8 made.needles) image (front_length superblock old.now cells end is) made.parts (volume_log superblock old.now cells end is) solid leaves)
