-- The rows of places, and what changes make of them.
use Rattle.std.specs.Prelude.{◌≡◌, ℕ, ◌<◌, ◌≤◌, ◌⊎◌, Bool, true, List, [], ◌∷◌, length, map, take, drop, replicate, slice_set, Option, Some, None, is_some, if◌then◌else◌}
use Rattle.hay_needle.specs.declared.needle.Pair.{Pair}
use Rattle.hay_needle.specs.Tables.{pair_eq}
use Rattle.hay_map.specs.MapRows.{MapRows, offset_of}
use Rattle.hay_map.specs.Places.{gone_place, moved_place, place_in}
use Rattle.hay_map.specs.declared.place.Place.{Place}
use Rattle.hay_map.specs.declared.place.Place.TheVariants as place
use Rattle.hay_map.specs.declared.view.OpenCell.{OpenCell}
use Rattle.hay_map.specs.declared.view.MapOp.{MapOp}
use Rattle.hay_map.specs.declared.view.MapOp.TheVariants as op

-- the row that begins here, or one of no photos
abbrev pub row_from : {P : Type 0} → MapRows P → Option ℕ → List (Place P)
row_from rows None = replicate rows.replicas place.None
row_from rows (Some at) = take rows.replicas (drop at rows.places)

-- the places of a pair, one for each replica
unfoldable pub row_at : {P : Type 0} → MapRows P → Pair → List (Place P)
row_at rows pair = row_from rows (offset_of rows pair)

-- whether a pair has a row of its own, which is changed without memory
unfoldable pub has_row : {P : Type 0} → MapRows P → Pair → Bool
has_row rows pair = is_some (offset_of rows pair)

-- the next pair that has no row can be given one without memory
unfoldable pub HasRoom : {P : Type 0} → MapRows P → Type 0
HasRoom rows = (1 ≤ rows.spare_offsets) × (rows.replicas ≤ rows.spare_places)

-- The rows are as before, though some pairs without photos may have got rows of their own.
pub record KeepsRows {P : Type 0} (old new : MapRows P) : Type 0 where
  pub replicas : new.replicas ≡ old.replicas
  pub rows : (pair : Pair) → row_at new pair ≡ row_at old pair
  pub known : (pair : Pair) → has_row old pair ≡ true → has_row new pair ≡ true

-- the place of the last of these cells that has the pair, or else the one before
abbrev pub last_place : {P : Type 0} → List (OpenCell P) → Pair → Place P → Place P
last_place [] pair before = before
last_place (cell ∷ cells) pair before = last_place cells pair (if pair_eq cell.pair pair then cell.place else before)

-- the place to which the last of these cells that has the pair moved it
abbrev pub swapped_place : {P : Type 0} → List (OpenCell P) → Pair → Place P → Place P
swapped_place [] pair before = before
swapped_place (cell ∷ cells) pair before = swapped_place cells pair (if pair_eq cell.pair pair then moved_place before cell.place else before)

-- what a change makes of a pair's row
abbrev pub changed_row : {P : Type 0} → MapOp P → Pair → List (Place P) → List (Place P)
changed_row (op.Put pair row) other before = if pair_eq pair other then row else before
changed_row (op.Del pair) other before = if pair_eq pair other then map gone_place before else before
changed_row (op.Seen pair replica place) other before = if pair_eq pair other then slice_set before replica place else before
changed_row (op.Swap replica cells) other before =
    slice_set before replica (swapped_place cells other (gone_place (place_in before replica)))

-- Each row is changed.
pub record ChangesRows {P : Type 0} (change : MapOp P) (old new : MapRows P) : Type 0 where
  pub replicas : new.replicas ≡ old.replicas
  pub rows : (pair : Pair) → row_at new pair ≡ changed_row change pair (row_at old pair)
  pub known : (pair : Pair) → has_row old pair ≡ true → has_row new pair ≡ true

-- a change that can be made where there are so many replicas
abbrev pub FitsRows : {P : Type 0} → ℕ → MapOp P → Type 0
FitsRows replicas (op.Put pair row) = length row ≡ replicas
FitsRows replicas (op.Del pair) = Unit {0}
FitsRows replicas (op.Seen pair replica place) = replica < replicas
FitsRows replicas (op.Swap replica cells) = replica < replicas

-- each cell's pair has a row
abbrev pub AllKnown : {P : Type 0} → MapRows P → List (OpenCell P) → Type 0
AllKnown rows [] = Unit {0}
AllKnown rows (cell ∷ cells) = (has_row rows cell.pair ≡ true) × AllKnown rows cells

-- A pair, which has a row, has this place on a replica, and nothing else changed.
pub record SetsPlace {P : Type 0} (pair : Pair) (replica : ℕ) (place : Place P) (old new : MapRows P) : Type 0 where
  pub replicas : new.replicas ≡ old.replicas
  pub rows : (other : Pair) → row_at new other ≡ (if pair_eq pair other then slice_set (row_at old other) replica place else row_at old other)
  pub known : (other : Pair) → has_row new other ≡ has_row old other

-- A pair, which has a row, has these places, and nothing else changed.
pub record SetsRow {P : Type 0} (pair : Pair) (row : List (Place P)) (old new : MapRows P) : Type 0 where
  pub replicas : new.replicas ≡ old.replicas
  pub rows : (other : Pair) → row_at new other ≡ (if pair_eq pair other then row else row_at old other)
  pub known : (other : Pair) → has_row new other ≡ has_row old other

-- A replica has no photo any more.
pub record LeavesReplica {P : Type 0} (replica : ℕ) (old new : MapRows P) : Type 0 where
  pub replicas : new.replicas ≡ old.replicas
  pub long : (other : Pair) → length (row_at old other) ≡ old.replicas
  pub rows : (other : Pair) → row_at new other ≡ slice_set (row_at old other) replica (gone_place (place_in (row_at old other) replica))
  pub known : (other : Pair) → has_row new other ≡ has_row old other

-- A replica has the places of these cells, and of every other pair the one before.
pub record GivesReplica {P : Type 0} (replica : ℕ) (cells : List (OpenCell P)) (old new : MapRows P) : Type 0 where
  pub replicas : new.replicas ≡ old.replicas
  pub rows : (other : Pair) → row_at new other ≡ slice_set (row_at old other) replica (last_place cells other (place_in (row_at old other) replica))
  pub known : (other : Pair) → has_row old other ≡ true → has_row new other ≡ true

-- The place of a pair moved, and nothing else changed.
pub record MovesPlace {P : Type 0} (pair : Pair) (replica : ℕ) (place : Place P) (old new : MapRows P) : Type 0 where
  pub replicas : new.replicas ≡ old.replicas
  pub rows : (other : Pair) → row_at new other ≡
      (if pair_eq pair other then slice_set (row_at old other) replica (moved_place (place_in (row_at old other) replica) place) else row_at old other)
  pub known : (other : Pair) → has_row new other ≡ has_row old other

-- The photos of a replica moved to these cells, one after another.
pub record MovesReplica {P : Type 0} (replica : ℕ) (cells : List (OpenCell P)) (old new : MapRows P) : Type 0 where
  pub replicas : new.replicas ≡ old.replicas
  pub rows : (other : Pair) → row_at new other ≡ slice_set (row_at old other) replica (swapped_place cells other (place_in (row_at old other) replica))
  pub known : (other : Pair) → has_row new other ≡ has_row old other

-- a change for which no memory is wanted
abbrev pub NeedsNoMemory : {P : Type 0} → MapOp P → MapRows P → Type 0
NeedsNoMemory (op.Put pair row) rows = (has_row rows pair ≡ true) ⊎ HasRoom rows
NeedsNoMemory (op.Del pair) rows = Unit {0}
NeedsNoMemory (op.Seen pair replica place) rows = (has_row rows pair ≡ true) ⊎ HasRoom rows
NeedsNoMemory (op.Swap replica cells) rows = Unit {0}
