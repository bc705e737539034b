-- What a look at a view of homes shows.
use Rattle.std.specs.Prelude.{◌≡◌, ◌<◌, ℕ, List, ◌∷◌, [], ◌++◌, length, map, take, Option, Some, IfSome}
use Rattle.hay_needle.specs.declared.needle.Pair.{Pair}
use Rattle.hay_front.specs.Fronts.{Witness, Holds, IsBehind, RowOf}
use Rattle.hay_legal.specs.declared.known.HomeRow.{HomeRow}
use Rattle.hay_legal.specs.Known.{home_in}
use Rattle.hay_directory.specs.Rows.{RowsWithin}

-- the rows, and how many volumes there are
pub record HomesAt : Type 0 where
  pub volumes : ℕ
  pub rows : List HomeRow

-- a row for each pair that has a home
abbrev pub rows_among : List ((ℕ × ℕ) × ℕ) → List HomeRow
rows_among homes = map (λ e. record { pair = record { key = e.0.0; alt = e.0.1 }; volume = e.1 }) homes

-- with one more row
abbrev pub with_row : HomesAt → HomeRow → HomesAt
with_row homes row = record homes { rows = homes.rows ++ row ∷ [] }

abbrev pub IsHomeOf : HomesAt → Pair → Option ℕ → Type 0
IsHomeOf homes pair home = home ≡ home_in homes.rows pair

-- the rows that stood and those that were added are of volumes that there are
abbrev pub AreWithin : Unit {0} → HomesAt → List HomeRow → Type 0
AreWithin start stood added = RowsWithin stood.volumes (stood.rows ++ added)

-- what a seat was shown: the rows that stood at first, and those that were added since
abbrev pub HomesShown : Type 0
HomesShown = Witness HomesAt (Unit {0}) HomeRow

-- A seat has seen the first n of the rows that were added. It is shown the home by the rows that stood and these.
abbrev pub LooksShowHomes : Type 0
LooksShowHomes =
    (seat shown : HomesShown) (stood : HomesAt) (n : ℕ) (pair : Pair) (home : Option ℕ)
    → seat.base ≡ Some (stood, tt) → IsBehind seat shown → n ≡ length seat.deeds
    → RowOf with_row IsHomeOf seat pair home → home ≡ home_in (stood.rows ++ take n shown.deeds) pair

-- The home that it is shown is a volume that there is.
abbrev pub LooksShowVolumes : Type 0
LooksShowVolumes =
    (seat : HomesShown) (stood : HomesAt) (pair : Pair) (home : Option ℕ)
    → seat.base ≡ Some (stood, tt) → Holds AreWithin seat
    → RowOf with_row IsHomeOf seat pair home → IfSome home (λ volume. volume < stood.volumes)
