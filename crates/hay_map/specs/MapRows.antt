-- How the rows of places are kept: one behind another, and where each pair's row begins.
use Rattle.std.specs.Prelude.{◌≡◌, ℕ, ◌+◌, ◌%◌, ◌≤◌, ◌⊎◌, false, Bool, List, length, replicate, nat_eq, ◌&&◌, Option, Some}
use Rattle.std.specs.Map.{lookup}
use Rattle.hay_needle.specs.declared.needle.Pair.{Pair}
use Rattle.hay_needle.specs.Tables.{pair_eq}
use Rattle.hay_map.specs.declared.place.Place.{Place}
use Rattle.hay_map.specs.declared.place.Place.TheVariants as place

-- The row of a pair that has none of its own, where the others begin, their places, and how many more pairs and places can be
-- kept without memory.
pub record MapRows (P : Type 0) : Type 0 where
  pub replicas : ℕ
  pub blank : List (Place P)
  pub offsets : List ((ℕ × ℕ) × ℕ)
  pub places : List (Place P)
  pub spare_offsets : ℕ
  pub spare_places : ℕ

abbrev pub has_key : Pair → ℕ × ℕ → Bool
has_key pair key = nat_eq pair.key key.0 && nat_eq pair.alt key.1

-- where the row of a pair begins
abbrev pub offset_of : {P : Type 0} → MapRows P → Pair → Option ℕ
offset_of rows pair = lookup (has_key pair) rows.offsets

-- two rows that do not overlap
abbrev pub Apart : ℕ → ℕ → ℕ → Type 0
Apart replicas at other = (at + replicas ≤ other) ⊎ (other + replicas ≤ at)

-- each pair that has a row has its own
pub record IsKept {P : Type 0} (rows : MapRows P) : Type 0 where
  pub some : 1 ≤ rows.replicas
  pub most : rows.replicas ≤ 4
  pub blank : rows.blank ≡ replicate rows.replicas place.None
  pub inside : (pair : Pair) (at : ℕ) → offset_of rows pair ≡ Some at → at + rows.replicas ≤ length rows.places
  pub aligned : (pair : Pair) (at : ℕ) → offset_of rows pair ≡ Some at → at % rows.replicas ≡ 0
  pub whole : length rows.places % rows.replicas ≡ 0
  pub apart : (pair other : Pair) (at there : ℕ) → offset_of rows pair ≡ Some at → offset_of rows other ≡ Some there → pair_eq pair other ≡ false → Apart rows.replicas at there
