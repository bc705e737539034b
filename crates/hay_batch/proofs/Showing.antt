-- What stands under the pairs of a batch whose cells come last.
use Rattle.std.proofs.Common.{◌≡◌, ◌≢◌, ◌+◌, ℕ, zero, suc, Bool, true, false, cond, List, [], ◌∷◌, ◌++◌, Some, refl, sym, ap, ◌∙◌, arith}
use Rattle.std.proofs.lemmas.Bool.{cond-true, cond-false}
use Rattle.std.proofs.lemmas.List.{map-append}
use Rattle.std.specs.Prelude.{slice_get}
use Rattle.hay_needle.specs.declared.needle.Cell.{Cell}
use Rattle.hay_needle.specs.declared.needle.Needle.{Needle}
use Rattle.hay_needle.specs.declared.needle.Outcome.{Outcome}
use Rattle.hay_needle.specs.declared.needle.Outcome.TheVariants as outcome
use Rattle.hay_needle.specs.declared.needle.Pair.{Pair}
use Rattle.hay_needle.specs.Needle.{needle_of_cell}
use Rattle.hay_needle.specs.Tables.{look, look_after, pair_eq, rows_of}
use Rattle.hay_needle.proofs.TableLaws.{pair_refl, pair_same, rows_append}
use Rattle.hay_volume.specs.Cells.{needles_of}
use Rattle.hay_batch.specs.declared.photo.NewPhoto.{NewPhoto}
use Rattle.hay_batch.specs.Batches.{AreDistinct, new_cells, photo_total, shown_of}

-- none of these photos is of the pair
Lacks : Pair → List NewPhoto → Type 0
Lacks pair photos = (i : ℕ) (photo : NewPhoto) → slice_get photos i ≡ Some photo → photo.pair ≢ pair

other_pair : (a b : Pair) (c : Bool) → pair_eq a b ≡ c → a ≢ b → pair_eq a b ≡ false
other_pair a b true same apart = absurd (apart (pair_same a b same))
other_pair a b false same apart = same

-- photos of other pairs leave what stood
others_leave : (photos : List NewPhoto) (at : ℕ) (pair : Pair) (before : Outcome) → Lacks pair photos → look_after (rows_of (needles_of (new_cells at photos))) pair before ≡ before
unfolding Lacks
others_leave [] at pair before lacks = refl
others_leave (photo ∷ photos) at pair before lacks =
    let apart : pair_eq photo.pair pair ≡ false = other_pair photo.pair pair (pair_eq photo.pair pair) refl (lacks 0 photo refl) in
    others_leave photos (at + photo_total photo) pair (cond (pair_eq photo.pair pair) (shown_of photo) before) (λ i other there. lacks (suc i) other there)
    ∙ cond-false (pair_eq photo.pair pair) (shown_of photo) before apart

-- the pair of one of them has its photo
one_shows : (photos : List NewPhoto) (at i : ℕ) (photo : NewPhoto) (before : Outcome) → AreDistinct photos → slice_get photos i ≡ Some photo
    → look_after (rows_of (needles_of (new_cells at photos))) photo.pair before ≡ shown_of photo
unfolding Lacks others_leave
one_shows [] at i photo before distinct there = absurd cc
one_shows (first ∷ photos) at zero photo before distinct there =
    let same : first ≡ photo = cc in
    let lacks : Lacks photo.pair photos = λ j other at_j is. distinct 0 (suc j) photo other (omega arith) there at_j (sym is) in
    let here : pair_eq first.pair photo.pair ≡ true = ap (λ (p : NewPhoto). pair_eq p.pair photo.pair) same ∙ pair_refl photo.pair in
    others_leave photos (at + photo_total first) photo.pair (cond (pair_eq first.pair photo.pair) (shown_of first) before) lacks
    ∙ cond-true (pair_eq first.pair photo.pair) (shown_of first) before here ∙ ap shown_of same
one_shows (first ∷ photos) at (suc i) photo before distinct there =
    one_shows photos (at + photo_total first) i photo (cond (pair_eq first.pair photo.pair) (shown_of first) before)
    (λ j k a b less at_j at_k. distinct (suc j) (suc k) a b (omega (arith, less)) at_j at_k) there

-- behind whatever cells
pub batch_shows : (photos : List NewPhoto) (cells : List Cell) (at i : ℕ) (photo : NewPhoto) → AreDistinct photos → slice_get photos i ≡ Some photo
    → look (rows_of (needles_of (cells ++ new_cells at photos))) photo.pair ≡ shown_of photo
unfolding one_shows
batch_shows photos cells at i photo distinct there =
    ap (λ (l : List Needle). look (rows_of l) photo.pair) (map-append needle_of_cell cells (new_cells at photos))
    ∙ rows_append (needles_of cells) (needles_of (new_cells at photos)) photo.pair outcome.Nothing
    ∙ one_shows photos at i photo (look (rows_of (needles_of cells)) photo.pair) distinct there
