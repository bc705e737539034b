-- The last cells that are kept of pairs.
use Rattle.std.specs.Prelude.{ℕ, List, Option, None, Some, unwrap_or, IsSome, if◌then◌else◌}
use Rattle.std.specs.BTreeMap.{is_at}
use Rattle.std.specs.Map.{lookup}
use Rattle.hay_needle.specs.declared.needle.Pair.{Pair}
use Rattle.hay_needle.specs.Tables.{pair_cmp}
use Rattle.hay_compact.specs.declared.standing.LastCell.{LastCell}

-- pairs, each with its last cell or none
abbrev pub LastCells : Type 0
LastCells = List (Pair × Option LastCell)

-- the last cell of a pair, deleted or not, if it has one
unfoldable pub last_in : LastCells → Pair → Option LastCell
last_in cells pair = unwrap_or (lookup (is_at (pair_cmp pair)) cells) None

-- the place of the photo of a pair with this last cell, if it has one
abbrev pub standing_at : Option LastCell → Option ℕ
standing_at None = None
standing_at (Some last) = if last.deleted then None else Some last.at

-- the place of a pair's photo, if it has one
unfoldable pub place_in : LastCells → Pair → Option ℕ
place_in cells pair = standing_at (last_in cells pair)

-- the pair's last cell may be set without memory
unfoldable pub HasRoom : LastCells → Pair → Type 0
HasRoom cells pair = IsSome (lookup (is_at (pair_cmp pair)) cells)
