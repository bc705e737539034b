-- Where a map says that the needle of a pair lies.
use Rattle.std.specs.Prelude.{ℕ, zero, suc, ◌+◌, List, [], ◌∷◌, Option, None, slice_get, if◌then◌else◌}
use Rattle.hay_needle.specs.declared.needle.Pair.{Pair}
use Rattle.hay_needle.specs.declared.needle.Needle.{Needle}
use Rattle.hay_needle.specs.Tables.{pair_eq}
use Rattle.hay_core.specs.declared.machine.Mapped.{Mapped}
use Rattle.hay_core.specs.declared.machine.Spot.{Spot}
use Rattle.hay_core.specs.declared.machine.Spot.TheVariants.{Absent, Live, Gone}

-- what the map gives the pair, where `before` stood there
abbrev pub spot_after : List Mapped → Pair → Spot → Spot
spot_after [] pair before = before
spot_after (m ∷ mapped) pair before = spot_after mapped pair (if pair_eq m.pair pair then m.spot else before)

abbrev pub spot_in : List Mapped → Pair → Spot
spot_in mapped pair = spot_after mapped pair Absent

-- the map of the needles of a generation's file, the first of which has this number
abbrev pub spots_of : ℕ → ℕ → List Needle → List Mapped
spots_of generation number [] = []
spots_of generation number (n ∷ needles) =
    record { pair = n.pair; spot = if n.deleted then Gone else Live generation number } ∷ spots_of generation (number + 1) needles

-- the needle of a number in the file of a generation
abbrev pub needle_at : List (List Needle) → ℕ → ℕ → Option Needle
needle_at [] generation number = None
needle_at (needles ∷ files) zero number = slice_get needles number
needle_at (needles ∷ files) (suc generation) number = needle_at files generation number
