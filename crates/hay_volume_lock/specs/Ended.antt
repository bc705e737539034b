-- Counts by replica and lane.
use Rattle.std.specs.Prelude.{ℕ, List, [], slice_index_or, Option, None}

-- that of a lane, if there is one
abbrev pub ended_at : List (List (Option ℕ)) → ℕ → ℕ → Option ℕ
ended_at ended j lane = slice_index_or (slice_index_or ended j []) lane None
