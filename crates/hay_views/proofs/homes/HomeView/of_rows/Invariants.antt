use Rattle.std.proofs.Common.{◌≡◌, map, take}
use Rattle.hay_directory.specs.Rows.{home_row}
use Rattle.hay_views.proofs.homes.HomeView.of_rows.Given as goal

abbrev pub invariant-loop-row : goal.invariant-loop-row
invariant-loop-row l = l.view ≡ record { volumes = l.volumes; rows = map home_row (take l.row-index l.rows) }
