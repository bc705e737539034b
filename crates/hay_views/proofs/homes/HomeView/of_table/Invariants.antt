use Rattle.std.proofs.Common.{◌≡◌, ◌++◌}
use Rattle.hay_directory.specs.Homes.{HomesWithin}
use Rattle.hay_directory.specs.Rows.{RowsWithin}
use Rattle.hay_views.specs.HomeLooks.{rows_among}
use Rattle.hay_views.proofs.homes.HomeView.of_table.Given as goal

abbrev pub invariant-loop-key : goal.invariant-loop-key
invariant-loop-key l = record {
  rows : l.rows ++ rows_among l.key-iterator ≡ rows_among l.fn.homes.entries;
  within : HomesWithin l.volumes l.fn.homes.entries → RowsWithin l.volumes l.rows;
}
