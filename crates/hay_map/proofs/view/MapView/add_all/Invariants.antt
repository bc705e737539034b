use Rattle.std.proofs.Common.{take}
use Rattle.hay_map.specs.Rows.{KeepsRows, AllKnown}
use Rattle.hay_map.proofs.view.MapView.add_all.Given as goal

abbrev pub invariant-loop-cell : goal.invariant-loop-cell
invariant-loop-cell g l = record {
  keeps : KeepsRows l.initial.self l.self;
  known : AllKnown l.self (take l.cell-index l.cells);
}
