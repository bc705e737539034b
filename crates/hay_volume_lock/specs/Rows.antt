-- What the published rows of a volume tell.
use Rattle.std.specs.Prelude.{ℕ, ◌<◌, List, fold}
use Rattle.hay_needle.specs.declared.needle.Outcome.{Outcome}
use Rattle.hay_needle.specs.declared.needle.Pair.{Pair}
use Rattle.hay_needle.specs.Tables.{outcome_at}
use Rattle.hay_disk.specs.Disk.{Files}
use Rattle.hay_core.specs.Entries.{apply_entry}
use Rattle.hay_legal.specs.declared.known.VolumeKnown.{VolumeKnown}
use Rattle.hay_legal.specs.Known.{now, replica_at}
use Rattle.hay_map.specs.Places.{PlaceMeans, place_in}
use Rattle.hay_map.specs.declared.place.Place.{Place}
use Rattle.hay_map.specs.declared.place.Place.TheVariants as place
use Rattle.hay_views.specs.declared.places.Published.{Published}
use Rattle.hay_views.specs.MapPasts.{MapPast, entered_by, row_of, with_published}
use Rattle.hay_logical.specs.Stands.{Stands}
use Rattle.hay_logical.specs.Volumes.{Volume}

-- what a place says of its pair where it was looked at; else it tells nothing
abbrev pub PlaceTells : {P : Type 0} → Type 0 → Pair → Place P → Outcome → Type 0
PlaceTells Tells pair (place.Unseen at size) what = Unit {0}
PlaceTells {P = P} Tells pair (place.Live needle) what = PlaceMeans {P = P} Tells pair (place.Live needle) what
PlaceTells {P = P} Tells pair place.None what = PlaceMeans {P = P} Tells pair place.None what
PlaceTells {P = P} Tells pair place.Gone what = PlaceMeans {P = P} Tells pair place.Gone what

-- Where the disk tells, each place of each row says what the entries that were published made of the replica's table.
abbrev pub RowsTell : {D P : Type 0} → Type 0 → (D → Files) → Type 0 → MapPast P (Volume D P) → List (Published P) → Type 0
RowsTell Tells files PieceTells past deeds =
    Tells → (k : VolumeKnown) → Stands files PieceTells past.start k → (pair : Pair) (j : ℕ) → j < ((past.start).settings).replicas
    → PlaceTells PieceTells pair (place_in (row_of (fold with_published past deeds) pair) j) (outcome_at (fold apply_entry (now k (replica_at k j)) (entered_by deeds)) pair)
