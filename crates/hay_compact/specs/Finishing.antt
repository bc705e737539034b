-- What the end of a compaction gives.
use Rattle.std.specs.Prelude.{◌≡◌, ◌⊎◌, true, false, List, [], ◌∷◌, ◌++◌, All, Option, Some, None, ⊤}
use Rattle.hay_needle.specs.declared.needle.Cell.{Cell}
use Rattle.hay_needle.specs.declared.needle.Pair.{Pair}
use Rattle.hay_needle.specs.declared.settings.Super.{Super}
use Rattle.hay_needle.specs.Tables.{lacks}
use Rattle.hay_disk.specs.Disk.{Files, FileState}
use Rattle.hay_volume.specs.Cells.{needles_of}
use Rattle.hay_index.specs.declared.record.Record.{Record}
use Rattle.hay_map.specs.declared.place.Place.{Place}
use Rattle.hay_map.specs.declared.place.Place.TheVariants as place
use Rattle.hay_map.specs.declared.view.OpenCell.{OpenCell}
use Rattle.hay_map.specs.Rows.{last_place}
use Rattle.hay_open.specs.Stored.{IndexRests, IsSealedCell, PlaceOf, Stored, VolumeRests, cell_record, index_file, last_cell, volume_file}
use Rattle.hay_compact.specs.declared.finish.Finished.{Finished}
use Rattle.hay_compact.specs.Copying.{Stage, photo_place, stored_of}
use Rattle.hay_compact.specs.Standing.{LastCells, place_in}

-- The place of each pair is that of its last cell. A pair that is not listed has no photo.
abbrev pub AreThePlaces : {P : Type 0} → Type 0 → List Cell → List (OpenCell P) → Type 0
AreThePlaces Tells cells places = (pair : Pair) → PlaceOf Tells (last_cell cells pair) (last_place places pair place.Gone)

-- a place where a photo was seen
abbrev pub IsLive : {P : Type 0} → Place P → Type 0
IsLive (place.Live needle) = Unit {0}
IsLive place.Gone = ⊥
IsLive place.None = ⊥
IsLive (place.Unseen at size) = ⊥

-- each of these cells has a photo's place
abbrev pub ArePhotos : {P : Type 0} → List (OpenCell P) → Type 0
ArePhotos cells = All (λ cell. IsLive cell.place) cells

-- a place that was looked at
abbrev pub IsSeen : {P : Type 0} → Place P → Type 0
IsSeen (place.Live needle) = Unit {0}
IsSeen place.Gone = Unit {0}
IsSeen place.None = Unit {0}
IsSeen (place.Unseen at size) = ⊥

-- The new volume file has the cells and the index their records, all of it is on the disk, and changes can be made to both. Each place
-- is known, and was looked at.
pub record IsFinished {P : Type 0} (Tells : Type 0) (sup : Super) (files : Files) (finished : Finished P) (stage : Stage) (fresh : List Cell) : Type 0 where
  pub volume_is : finished.volume ≡ record { file = volume_file stage.generation; end = stage.volume.end; capacity = sup.settings.capacity }
  pub index_is : finished.index ≡ record { file = index_file stage.generation; end = finished.index.end; pending = []; frozen = false }
  pub volume_rests : VolumeRests sup (files (volume_file stage.generation)) (stored_of stage fresh)
  pub index_rests : IndexRests sup (files (index_file stage.generation)) (stored_of stage fresh) finished.index.end
  pub places : AreThePlaces Tells fresh finished.places.items
  pub seen : (pair : Pair) → IsSeen (last_place finished.places.items pair place.Gone)

-- WHILE NEEDLES ARE SEALED

-- the place of a pair whose last cell this is, where the cells `rest` were not looked at yet
abbrev pub PlaceSoFar : {P : Type 0} → Type 0 → List Cell → Pair → Option Cell → Place P → Type 0
PlaceSoFar Tells rest pair (Some cell) (place.Live needle) = IsSealedCell Tells cell needle
PlaceSoFar Tells rest pair (Some cell) place.Gone = (cell.deleted ≡ true) ⊎ (lacks pair (needles_of rest) ≡ false)
PlaceSoFar Tells rest pair (Some cell) place.None = ⊥
PlaceSoFar Tells rest pair None place.Gone = ⊤
PlaceSoFar Tells rest pair None place.None = ⊥
PlaceSoFar Tells rest pair None (place.Live needle) = ⊥
PlaceSoFar Tells rest pair (Some cell) (place.Unseen at size) = ⊥
PlaceSoFar Tells rest pair None (place.Unseen at size) = ⊥

abbrev pub ArePlacesSoFar : {P : Type 0} → Type 0 → List Cell → List Cell → List (OpenCell P) → Type 0
ArePlacesSoFar Tells cells rest places = (pair : Pair) → PlaceSoFar Tells rest pair (last_cell cells pair) (last_place places pair place.Gone)

-- the file has these cells, and the places of the pairs' photos are those of their last cells
pub record CanSeal (sup : Super) (file : FileState) (standing : LastCells) (s : Stored) : Type 0 where
  pub rests : VolumeRests sup file s
  pub places : (pair : Pair) → place_in standing pair ≡ photo_place (last_cell s.cells pair)

-- the record is that of the first of the cells `rest`, the last ones of the file
pub record IsDue (s : Stored) (row : Record) (rest : List Cell) : Type 0 where
  pub front : List Cell
  pub cell : Cell
  pub behind : List Cell
  pub cells : s.cells ≡ front ++ cell ∷ behind
  pub now : rest ≡ cell ∷ behind
  pub is : row ≡ cell_record cell
