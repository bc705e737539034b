-- What the place of a pair's photo means.
use Rattle.std.specs.Prelude.{◌≡◌, ℕ, List, length, Bool, true, false, slice_index_or}
use Rattle.hay_needle.specs.declared.needle.Outcome.{Outcome}
use Rattle.hay_needle.specs.declared.needle.Outcome.TheVariants as outcome
use Rattle.hay_needle.specs.declared.needle.Pair.{Pair}
use Rattle.hay_needle.specs.declared.needle.Photo.{Photo}
use Rattle.hay_needle.specs.declared.needle.Version.{Version}
use Rattle.hay_needle.specs.Needle.{NeedleBytes}
use Rattle.hay_map.specs.Sealed.{SealedNeedle}
use Rattle.hay_map.specs.declared.place.Place.{Place}
use Rattle.hay_map.specs.declared.place.Place.TheVariants as place

-- The piece tells, and has the needle of this photo, of either version.
pub record IsSealed (Tells : Type 0) (pair : Pair) (photo : Photo) (needle : SealedNeedle) : Type 0 where
  pub tells : Tells
  pub size : needle.size ≡ length photo.bytes
  pub version : Version
  pub is : NeedleBytes needle.bytes (record { version = version; pair = pair; photo = photo; deleted = false })

-- what a place says of its pair; one that was not looked at yet says nothing
abbrev pub PlaceMeans : {P : Type 0} → Type 0 → Pair → Place P → Outcome → Type 0
PlaceMeans Tells pair (place.Live needle) (outcome.Photo photo) = IsSealed Tells pair photo needle
PlaceMeans Tells pair (place.Live needle) outcome.Nothing = ⊥
PlaceMeans Tells pair place.None outcome.Nothing = Unit {0}
PlaceMeans Tells pair place.None (outcome.Photo photo) = ⊥
PlaceMeans Tells pair place.Gone outcome.Nothing = Unit {0}
PlaceMeans Tells pair place.Gone (outcome.Photo photo) = ⊥
PlaceMeans Tells pair (place.Unseen at size) outcome.Nothing = ⊥
PlaceMeans Tells pair (place.Unseen at size) (outcome.Photo photo) = ⊥

-- the place once the photo was deleted
abbrev pub gone_place : {P : Type 0} → Place P → Place P
gone_place place.None = place.None
gone_place (place.Live needle) = place.Gone
gone_place place.Gone = place.Gone
gone_place (place.Unseen at size) = place.Gone

-- whether the replica ever had a photo
abbrev pub has_stood : {P : Type 0} → Place P → Bool
has_stood place.None = false
has_stood (place.Live needle) = true
has_stood place.Gone = true
has_stood (place.Unseen at size) = true

-- the place of a photo that moved here; where there never was one, none is
abbrev pub moved_place : {P : Type 0} → Place P → Place P → Place P
moved_place place.None there = place.None
moved_place (place.Live needle) there = there
moved_place place.Gone there = there
moved_place (place.Unseen at size) there = there

-- the place of a replica in a row
abbrev pub place_in : {P : Type 0} → List (Place P) → ℕ → Place P
place_in row replica = slice_index_or row replica place.None
