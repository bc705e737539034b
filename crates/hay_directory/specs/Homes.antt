-- What is kept in memory of the rows: by pair the volume of its first row.
use Rattle.std.specs.Prelude.{◌≡◌, ◌<◌, ℕ, Bool, nat_eq, ◌&&◌, List, Option, IfSome, if◌then◌else◌}
use Rattle.std.specs.Map.{lookup}
use Rattle.hay_needle.specs.declared.needle.Pair.{Pair}
use Rattle.hay_needle.specs.Tables.{pair_eq}

-- the volumes, and how many more pairs can be kept without memory
pub record KeptHomes : Type 0 where
  pub volumes : List ((ℕ × ℕ) × ℕ)
  pub room : ℕ

-- pairs as numbers
abbrev pub key_eq : ℕ × ℕ → ℕ × ℕ → Bool
key_eq a b = nat_eq a.0 b.0 && nat_eq a.1 b.1

-- the volume that is kept of a pair
abbrev pub home_among : List ((ℕ × ℕ) × ℕ) → Pair → Option ℕ
home_among homes pair = lookup (key_eq (pair.key, pair.alt)) homes

-- each home is one of so many volumes
pub record HomesWithin (volumes : ℕ) (homes : List ((ℕ × ℕ) × ℕ)) : Type 0 where
  pub at : (pair : Pair) → IfSome (home_among homes pair) (λ volume. volume < volumes)

-- each pair has the home that it had
pub record KeepsHomes (old new : List ((ℕ × ℕ) × ℕ)) : Type 0 where
  pub at : (pair : Pair) → home_among new pair ≡ home_among old pair

-- The pair has this home, or none, and each other pair what it had.
pub record SetsHome (pair : Pair) (home : Option ℕ) (old new : List ((ℕ × ℕ) × ℕ)) : Type 0 where
  pub at : (other : Pair) → home_among new other ≡ (if pair_eq pair other then home else home_among old other)
