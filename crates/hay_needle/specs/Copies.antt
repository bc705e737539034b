-- What a compaction has copied. It goes through the current file's needles, and appends each live one to a new file.
use Rattle.std.specs.Prelude.{◌≡◌, ℕ, List, ◌++◌, drop}
use Rattle.hay_needle.specs.declared.needle.Pair.{Pair}
use Rattle.hay_needle.specs.declared.needle.Outcome.TheVariants as outcome
use Rattle.hay_needle.specs.declared.needle.Needle.{Needle}
use Rattle.hay_needle.specs.Tables.{look, rows_of}

-- At this pair, with so many needles of the current file examined, the new file's needles and the ones that are left make what the
-- current ones make. A pair that has nothing in the current file has nothing in the new one.
pub record CopiesAt (pair : Pair) (fresh current : List Needle) (examined : ℕ) : Type 0 where
  pub table : look (rows_of (fresh ++ drop examined current)) pair ≡ look (rows_of current) pair
  pub gone : look (rows_of current) pair ≡ outcome.Nothing → look (rows_of fresh) pair ≡ outcome.Nothing
