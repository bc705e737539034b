-- What a look at a view of places shows, in the terms of maps.
use Rattle.std.specs.Prelude.{◌≡◌, ℕ, List, length, filter, take, Some}
use Rattle.hay_needle.specs.declared.needle.Pair.{Pair}
use Rattle.hay_front.specs.Fronts.{Witness, IsBehind, RowOf}
use Rattle.hay_map.specs.MapRows.{MapRows}
use Rattle.hay_map.specs.Rows.{row_at}
use Rattle.hay_map.specs.declared.place.Place.{Place}
use Rattle.hay_views.specs.declared.places.Published.{Published}
use Rattle.hay_views.specs.MapPasts.{MapPast, AllFit, IsRowOf, MadeBy, begun_at, changes_of, entered_by, is_entry, with_published}

-- A seat has seen the first n of the changes that were published. It is shown the row that a map has behind these.
abbrev pub LooksShowMaps : (P S : Type 0) → Type 0
LooksShowMaps P S =
    (seat shown : Witness (MapPast P S) S (Published P)) (start : S) (first now : MapRows P) (n : ℕ) (pair : Pair) (row : List (Place P))
    → seat.base ≡ Some (begun_at start first, start) → AllFit (begun_at start first) seat.deeds → IsBehind seat shown → n ≡ length seat.deeds
    → MadeBy (changes_of (take n shown.deeds)) first now → RowOf with_published IsRowOf seat pair row
    → (row ≡ row_at now pair) × (length row ≡ first.replicas)

-- It has been shown as many entries as changes that count.
abbrev pub CountsEntries : (P S : Type 0) → Type 0
CountsEntries P S =
    (past : MapPast P S) (deeds : List (Published P)) → AllFit past deeds → length (filter (λ deed. is_entry deed.change) deeds) ≡ length (entered_by deeds)
