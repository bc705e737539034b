use Rattle.std.proofs.Common.{rules, arith, ◌≡◌, ◌<◌, true, take, ap, ◌∙◌}
use Rattle.std.proofs.lemmas.List.{take_more, take_all}
use Rattle.hay_map.specs.Rows.{has_row}
use Rattle.hay_map.specs.declared.view.OpenCell.{OpenCell}
use Rattle.hay_map.proofs.Changes.{all_known_at, gives_none, gives_more}
use Rattle.hay_map.proofs.view.MapView.set_all.Goals as goal

pub set_place-requires : goal.set_place-requires
set_place-requires g c =
    let had : has_row c.args.self.now c.cell-item.result.pair ≡ true =
    ap (λ (cell : OpenCell _). has_row c.args.self.now cell.pair) c.cell-item.is ∙ all_known_at c.args.self.now c.args.cells.now c.loop-cell.cell-index c.cell-item.result
    c.requires.known c.loop-cell-test.true in
    let replica : c.args.replica < c.loop-cell.self.replicas = omega (arith, c.loop-cell.invariant.replicas, c.requires.replica) in
    record { known = c.loop-cell.invariant.known c.cell-item.result.pair had; replica = replica }

pub loop-cell-init : goal.loop-cell-init
loop-cell-init g c = gives_none _ _

pub loop-cell-preserved : goal.loop-cell-preserved
loop-cell-preserved g c =
    rw (take_more c.args.cells.now c.loop-cell.cell-index c.cell-item.result c.loop-cell-test.true, ← c.cell-item.is)
    (gives_more c.args.replica (take c.loop-cell.cell-index c.args.cells.now) c.cell-item.result _ _ _ c.loop-cell.invariant (rw c.dup.ensures at c.set_place.ensures.set))

pub returns : goal.returns
returns g c = rw (← take_all c.loop-cell.cell-index c.args.cells.now c.loop-cell-test.false) c.loop-cell.invariant
