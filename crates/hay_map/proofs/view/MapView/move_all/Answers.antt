use Rattle.std.proofs.Common.{take}
use Rattle.std.proofs.lemmas.List.{take_more, take_all}
use Rattle.hay_map.proofs.Moving.{moves_none, moves_more}
use Rattle.hay_map.proofs.view.MapView.move_all.Goals as goal

pub loop-cell-init : goal.loop-cell-init
loop-cell-init g c = moves_none _ _

pub loop-cell-preserved : goal.loop-cell-preserved
loop-cell-preserved g c =
    rw (take_more c.args.cells.now c.loop-cell.cell-index c.cell-item.result c.loop-cell-test.true, ← c.cell-item.is)
    (moves_more c.args.replica (take c.loop-cell.cell-index c.args.cells.now) c.cell-item.result _ _ _ c.loop-cell.invariant c.requires.replica c.requires.long
    (rw c.dup.ensures at c.move_place.ensures))

pub returns : goal.returns
returns g c = rw (← take_all c.loop-cell.cell-index c.args.cells.now c.loop-cell-test.false) c.loop-cell.invariant
