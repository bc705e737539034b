-- The homes of pairs, by rows and in memory.
use Rattle.std.specs.Prelude.{◌≡◌, ℕ, Bool, nat_eq, ◌&&◌, List, [], ◌∷◌, Option, Some, None, if◌then◌else◌}
use Rattle.std.specs.Option.{option_or}
use Rattle.std.specs.Map.{lookup}
use Rattle.hay_needle.specs.declared.needle.Pair.{Pair}
use Rattle.hay_needle.specs.Tables.{pair_eq}
use Rattle.hay_dirfile.specs.declared.row.DirRow.{DirRow}

-- the volume of the first row of a pair
abbrev pub home_in : List DirRow → Pair → Option ℕ
home_in [] pair = None
home_in (row ∷ rows) pair = if pair_eq row.pair pair then Some row.volume else home_in rows pair

-- pairs as numbers
abbrev pub key_eq : ℕ × ℕ → ℕ × ℕ → Bool
key_eq a b = nat_eq a.0 b.0 && nat_eq a.1 b.1

-- the volume that is kept of a pair
abbrev pub home_among : List ((ℕ × ℕ) × ℕ) → Pair → Option ℕ
home_among homes pair = lookup (key_eq (pair.key, pair.alt)) homes

-- the homes of these rows were added; a pair that had one keeps it
pub record AddsHomes (rows : List DirRow) (old new : List ((ℕ × ℕ) × ℕ)) : Type 0 where
  pub at : (pair : Pair) → home_among new pair ≡ option_or (home_among old pair) (home_in rows pair)

-- what is kept in memory is right of these rows
pub record AreHomes (homes : List ((ℕ × ℕ) × ℕ)) (rows : List DirRow) : Type 0 where
  pub are : (pair : Pair) → home_among homes pair ≡ home_in rows pair
