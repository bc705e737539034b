use Rattle.std.proofs.Common.{◌≡◌, take}
use Rattle.std.specs.Option.{option_or}
use Rattle.hay_needle.specs.declared.needle.Pair.{Pair}
use Rattle.hay_batch.specs.Homes.{home_among, home_in}
use Rattle.hay_batch.proofs.homes.Homes.add_rows.Given as goal

abbrev pub invariant-loop-row : goal.invariant-loop-row
invariant-loop-row l = (pair : Pair) → home_among l.self pair ≡ option_or (home_among l.fn.self pair) (home_in (take l.row-index l.rows) pair)
