-- Where a line ends.
use Rattle.std.specs.Prelude.{ℕ, suc, ◌==◌, List, [], ◌∷◌, Option, Some, None, option_map, if◌then◌else◌}

-- the place of the first line feed
abbrev pub feed_at : List ℕ → Option ℕ
feed_at [] = None
feed_at (b ∷ bytes) = if b == 10 then Some 0 else option_map suc (feed_at bytes)
