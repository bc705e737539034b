use Rattle.std.proofs.Common.{◌≡◌, ◌++◌, map, take}
use Rattle.std.specs.Vec.{vec_capacity}
use Rattle.hay_open.specs.Finds.{unseen_cell}
use Rattle.hay_open.proofs.places.add_recorded.Given as goal

abbrev pub invariant-loop-row : goal.invariant-loop-row
invariant-loop-row g l = record {
  items : l.cells.items ≡ l.initial.cells.items ++ map unseen_cell (take l.row-index l.rows);
  capacity : vec_capacity l.cells ≡ vec_capacity l.initial.cells;
}
