use Rattle.std.proofs.Common.{take}
use Rattle.hay_map.specs.Rows.{GivesReplica}
use Rattle.hay_map.proofs.view.MapView.set_all.Given as goal

abbrev pub invariant-loop-cell : goal.invariant-loop-cell
invariant-loop-cell g l = GivesReplica l.replica (take l.cell-index l.cells) l.initial.self l.self
