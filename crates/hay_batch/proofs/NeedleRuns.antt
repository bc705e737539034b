-- The needles of a batch, one behind the other.
use Rattle.std.proofs.Common.{◌≡◌, ◌<◌, ◌+◌, ◌-◌, ℕ, List, [], ◌∷◌, ◌++◌, length, get_or, take, drop, refl, sym, ◌∙◌, ap, subst, arith, append_assoc, length-append, length-drop, take-append-drop}
use Rattle.std.proofs.lemmas.List.{drop_at, take_all, take_more}
use Rattle.std.proofs.lemmas.List.Sums.{sum_by-cons}
use Rattle.hay_needle.specs.declared.needle.Cell.{Cell}
use Rattle.hay_needle.specs.declared.needle.Needle.{Needle}
use Rattle.hay_needle.specs.Needle.{live, needle_magic, NeedleBytes, head_bytes}
use Rattle.hay_needle.proofs.Needles.{length-needle}
use Rattle.hay_disk.specs.Gate.{magic_bytes, record_of, end_mark}
use Rattle.hay_volume.specs.Cells.{AreCellsAt, live_cell}
use Rattle.hay_volume.proofs.CellLaws.{one_more}
use Rattle.hay_batch.specs.declared.photo.NewPhoto.{NewPhoto}
use Rattle.hay_batch.specs.Batches.{AreNeedles, batch_total, new_cells, photo_total}

-- the needle of a photo
abbrev pub needle_of : NewPhoto → Needle
needle_of new = live new.pair new.cookie new.bytes

-- the cell of a photo
abbrev pub cell_of : ℕ → NewPhoto → Cell
cell_of at new = live_cell at new.pair new.cookie new.bytes

-- NUMBERS

behind : (at first rest whole : ℕ) → whole ≡ first + rest → (at + first) + rest ≡ at + whole
behind at first rest whole is = omega arith

together : (whole first rest one others total : ℕ) → whole ≡ first + rest → first ≡ one → rest ≡ others → total ≡ one + others → whole ≡ total
together whole first rest one others total wholes ones rests totals = omega arith

total_more : (new : NewPhoto) (photos : List NewPhoto) → batch_total (new ∷ photos) ≡ photo_total new + batch_total photos
total_more new photos = sum_by-cons photo_total new photos

-- CELLS IN A ROW

-- one photo more
cells_more : (at : ℕ) (photos : List NewPhoto) (new : NewPhoto) → new_cells at (photos ++ new ∷ []) ≡ new_cells at photos ++ cell_of (at + batch_total photos) new ∷ []
cells_more at [] new = ap (λ (k : ℕ). cell_of k new ∷ []) (omega arith)
cells_more at (first ∷ photos) new =
    let rest = cells_more (at + photo_total first) photos new in
    let here : (at + photo_total first) + batch_total photos ≡ at + batch_total (first ∷ photos) =
    behind at (photo_total first) (batch_total photos) (batch_total (first ∷ photos)) (total_more first photos) in
    ap (λ (cells : List Cell). cell_of at first ∷ cells) (rest ∙ ap (λ (k : ℕ). new_cells (at + photo_total first) photos ++ cell_of k new ∷ []) here)

-- cells behind cells
pub cells_append : (at : ℕ) (xs ys : List ℕ) (cs ds : List Cell) → AreCellsAt at xs cs → AreCellsAt (at + length xs) ys ds → AreCellsAt at (xs ++ ys) (cs ++ ds)
cells_append at xs ys [] ds are also =
    let place : at + length xs ≡ at = omega (arith, ap length are) in
    subst (λ (l : List ℕ). AreCellsAt at (l ++ ys) ds) (sym are) (subst (λ k. AreCellsAt k ys ds) place also)
cells_append at xs ys (c ∷ cs) ds are also =
    let place : at + length xs ≡ (at + length are.0) + length are.1 = omega (arith, ap length are.2, length-append are.0 are.1) in (
      are.0,
      are.1 ++ ys,
      ap (λ (l : List ℕ). l ++ ys) are.2 ∙ append_assoc are.0 are.1 ys,
      are.3,
      cells_append (at + length are.0) are.1 ys cs ds are.4 (subst (λ k. AreCellsAt k ys ds) place also),
    )

-- they are as long as the photos' needles
cells_long : (at : ℕ) (bytes : List ℕ) (photos : List NewPhoto) → AreCellsAt at bytes (new_cells at photos) → length bytes ≡ batch_total photos
cells_long at bytes [] are = ap length are
cells_long at bytes (new ∷ photos) are =
    let long : length are.0 ≡ photo_total new = length-needle are.0 (needle_of new) are.3.is in
    let rest = cells_long (at + photo_total new) are.1 photos (subst (λ k. AreCellsAt (at + k) are.1 (new_cells (at + photo_total new) photos)) long are.4) in
    together (length bytes) (length are.0) (length are.1) (photo_total new) (batch_total photos) (batch_total (new ∷ photos)) (ap length are.2 ∙ length-append are.0 are.1) long
    rest (total_more new photos)

pub length-needles : (bytes : List ℕ) (photos : List NewPhoto) → AreNeedles bytes photos → length bytes ≡ batch_total photos
length-needles bytes photos are = cells_long 0 bytes photos (are 0)

-- one needle more
pub needles_more : (photos : List NewPhoto) (i : ℕ) (photo : NewPhoto) (bytes more needle : List ℕ) → i < length photos → photo ≡ get_or photos i photo
    → NeedleBytes needle (needle_of photo) → more ≡ bytes ++ needle
    → AreNeedles bytes (take i photos) → AreNeedles more (take (i + 1) photos)
needles_more photos i photo bytes more needle within here is grown are = λ at.
    let before : List NewPhoto = take i photos in
    let longer : take (i + 1) photos ≡ before ++ photo ∷ [] = take_more photos i photo within ∙ ap (λ (x : NewPhoto). before ++ x ∷ []) (sym here) in
    let place : at + batch_total before ≡ at + length bytes = ap (λ (k : ℕ). at + k) (sym (length-needles bytes before are)) in
    let cells : new_cells at before ++ cell_of (at + batch_total before) photo ∷ [] ≡ new_cells at (take (i + 1) photos) =
    sym (cells_more at before photo) ∙ ap (λ (l : List NewPhoto). new_cells at l) (sym longer) in
    subst (λ (l : List ℕ). AreCellsAt at l (new_cells at (take (i + 1) photos))) (sym grown)
    (subst (λ (cs : List Cell). AreCellsAt at (bytes ++ needle) cs) cells
    (one_more at (at + batch_total before) bytes needle (new_cells at before) (cell_of (at + batch_total before) photo) (are at) place (record { place = refl; is = is })))

-- THE BODY OF AN APPEND

-- what stands behind the first needle's magic, and the end mark
pub record IsBody (body : List ℕ) (photos : List NewPhoto) : Type 0 where
  pub needles : List ℕ
  pub are : AreNeedles needles photos
  pub begins : needles ≡ record_of needle_magic (drop 8 needles)
  pub parts : body ≡ drop 8 needles ++ end_mark

magic_first : (bytes needle rest : List ℕ) (n : Needle) → bytes ≡ needle ++ rest → NeedleBytes needle n → bytes ≡ record_of needle_magic (drop 8 bytes)
unfolding head_bytes
magic_first bytes needle rest n parts is =
    sym (take-append-drop 8 bytes) ∙ ap (λ (l : List ℕ). l ++ drop 8 bytes) (ap (λ (l : List ℕ). take 8 l) (parts ∙ ap (λ (l : List ℕ). l ++ rest) is.spelled))

first_magic : (bytes : List ℕ) (photos : List NewPhoto) → 0 < length photos → AreNeedles bytes photos → bytes ≡ record_of needle_magic (drop 8 bytes)
first_magic bytes [] some are = absurd (omega arith)
first_magic bytes (new ∷ photos) some are =
    let cells = are 0 in
    magic_first bytes cells.0 cells.1 (needle_of new) cells.2 cells.3.is

-- the bytes behind the first magic
abbrev pub body_of : List ℕ → List ℕ
body_of bytes = take (length bytes - 8) (drop 8 bytes)

pub body_made : (bytes items : List ℕ) (photos : List NewPhoto) → 0 < length photos → bytes ≡ items → (needles : List ℕ) × AreNeedles needles photos × (items ≡ needles ++ end_mark)
    → IsBody (body_of bytes) photos
body_made bytes items photos some same written =
    let needles : List ℕ = written.0 in
    let begins = first_magic needles photos some written.1 in
    let split : bytes ≡ magic_bytes needle_magic ++ (drop 8 needles ++ end_mark) =
    same ∙ written.2 ∙ ap (λ (l : List ℕ). l ++ end_mark) begins ∙ append_assoc (magic_bytes needle_magic) (drop 8 needles) end_mark in
    record {
      needles = needles;
      are = written.1;
      begins = begins;
      parts =
          take_all (length bytes - 8) (drop 8 bytes) (omega (arith, length-drop 8 bytes)) ∙ ap (λ (l : List ℕ). drop 8 l) split
          ∙ drop_at (magic_bytes needle_magic) (drop 8 needles ++ end_mark) 8 refl;
    }

pub length-body : (body : List ℕ) (photos : List NewPhoto) → IsBody body photos → length body ≡ batch_total photos
length-body body photos made =
    omega (
      arith,
      ap length made.parts,
      length-append (drop 8 made.needles) end_mark,
      ap length made.begins,
      length-append (magic_bytes needle_magic) (drop 8 made.needles),
      length-needles made.needles photos made.are,
    )
