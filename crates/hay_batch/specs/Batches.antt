-- What a batch of photos is, and the cells and rows that it adds.
use Rattle.std.specs.Prelude.{◌≡◌, ◌<◌, ◌≤◌, ◌+◌, ◌^◌, ◌≢◌, ℕ, List, [], ◌∷◌, Some, length, slice_get, sum_by, All}
use Rattle.hay_needle.specs.declared.needle.Cell.{Cell}
use Rattle.hay_needle.specs.declared.needle.Outcome.{Outcome}
use Rattle.hay_needle.specs.declared.needle.Outcome.TheVariants as outcome
use Rattle.hay_needle.specs.declared.needle.Version.TheVariants.{Two}
use Rattle.hay_needle.specs.Sizes.{max_photo, needle_total}
use Rattle.hay_volume.specs.Cells.{AreCellsAt, live_cell}
use Rattle.hay_dirfile.specs.declared.row.DirRow.{DirRow}
use Rattle.hay_batch.specs.declared.photo.NewPhoto.{NewPhoto}
use Rattle.hay_batch.specs.declared.photo.TheConstants.{MAX_PHOTOS, MAX_TOTAL}

-- the bytes that the needle of a photo takes
abbrev pub photo_total : NewPhoto → ℕ
photo_total photo = needle_total (length photo.bytes)

-- the bytes that the needles of these photos take
abbrev pub batch_total : List NewPhoto → ℕ
batch_total photos = sum_by photo_total photos

-- the photo has a needle
abbrev pub IsStorable : NewPhoto → Type 0
IsStorable photo = length photo.bytes ≤ max_photo Two

-- the bytes of a batch's needles at most
abbrev pub max_total : ℕ
max_total = MAX_TOTAL

-- one photo at least and `MAX_PHOTOS` at most, and `max_total` bytes of needles at most
pub record IsBatch (photos : List NewPhoto) : Type 0 where
  pub some : 0 < length photos
  pub most : length photos ≤ MAX_PHOTOS
  pub storable : All IsStorable photos
  pub total : batch_total photos ≤ max_total

-- no two photos are of one pair
abbrev pub AreDistinct : List NewPhoto → Type 0
AreDistinct photos = (i j : ℕ) (a b : NewPhoto) → i < j → slice_get photos i ≡ Some a → slice_get photos j ≡ Some b → a.pair ≢ b.pair

-- what a pair has whose last needle is that of this photo
abbrev pub shown_of : NewPhoto → Outcome
shown_of photo = outcome.Photo (record { cookie = photo.cookie; bytes = photo.bytes })

-- the cells of these photos without gaps, the first of them at `at`
abbrev pub new_cells : ℕ → List NewPhoto → List Cell
new_cells at [] = []
new_cells at (photo ∷ photos) = live_cell at photo.pair photo.cookie photo.bytes ∷ new_cells (at + photo_total photo) photos

-- the bytes are the needles of these photos without gaps, wherever the first of them stands
abbrev pub AreNeedles : List ℕ → List NewPhoto → Type 0
AreNeedles bytes photos = (at : ℕ) → AreCellsAt at bytes (new_cells at photos)

-- the row by which a photo is kept in a volume
abbrev pub new_row : ℕ → NewPhoto → DirRow
new_row volume photo = record { pair = photo.pair; volume = volume }

-- the numbers of a row are those of its pair
pub record RowFits (row : DirRow) : Type 0 where
  pub key : row.pair.key < 2 ^ 64
  pub alt : row.pair.alt < 2 ^ 32
