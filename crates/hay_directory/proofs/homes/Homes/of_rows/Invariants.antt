use Rattle.std.proofs.Common.{◌≡◌, map, take}
use Rattle.hay_needle.specs.declared.needle.Pair.{Pair}
use Rattle.hay_legal.specs.Known.{home_in}
use Rattle.hay_directory.specs.Homes.{home_among}
use Rattle.hay_directory.specs.Rows.{home_row}
use Rattle.hay_directory.proofs.homes.Homes.of_rows.Given as goal

abbrev pub invariant-loop-row : goal.invariant-loop-row
invariant-loop-row l = (pair : Pair) → home_among l.homes.volumes pair ≡ home_in (map home_row (take l.row-index l.rows)) pair
