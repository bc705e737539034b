use Rattle.std.proofs.Common.{take}
use Rattle.hay_map.specs.Rows.{MovesReplica}
use Rattle.hay_map.proofs.view.MapView.move_all.Given as goal

abbrev pub invariant-loop-cell : goal.invariant-loop-cell
invariant-loop-cell g l = MovesReplica l.replica (take l.cell-index l.cells) l.initial.self l.self
