use Rattle.std.proofs.Common.{◌≡◌, inl, true, take, ap, ◌∙◌}
use Rattle.std.proofs.lemmas.Bool.{false≢true}
use Rattle.std.proofs.lemmas.List.{take_more, take_all}
use Rattle.hay_map.specs.Rows.{has_row}
use Rattle.hay_map.specs.declared.view.OpenCell.{OpenCell}
use Rattle.hay_map.proofs.RowLaws.{keeps_itself, keeps_keeps}
use Rattle.hay_map.proofs.Changes.{all_known, all_known_push, all_known_at}
use Rattle.hay_map.proofs.view.MapView.add_all.Goals as goal

pub loop-cell-init : goal.loop-cell-init
loop-cell-init g c = record { keeps = keeps_itself _; known = tt }

pub loop-cell-preserved : goal.loop-cell-preserved
loop-cell-preserved g c = record {
  keeps = keeps_keeps _ _ _ c.loop-cell.invariant.keeps c.add.ensures.rows;
  known =
      rw (take_more c.args.cells.now c.loop-cell.cell-index c.cell-item.result c.loop-cell-test.true, ← c.cell-item.is)
      (all_known_push _ (take c.loop-cell.cell-index c.args.cells.now) c.cell-item.result (all_known _ _ c.add.ensures.rows.known _ c.loop-cell.invariant.known) c.in_ok-add.ensures.known);
}

pub returns-in_err-add-clause-memory : goal.returns-in_err-add-clause-memory
returns-in_err-add-clause-memory g c = λ all.
    let had : has_row c.args.self.now c.cell-item.result.pair ≡ true =
    ap (λ (cell : OpenCell _). has_row c.args.self.now cell.pair) c.cell-item.is ∙ all_known_at c.args.self.now c.args.cells.now c.loop-cell.cell-index c.cell-item.result all c.loop-cell-test.true in
    absurd (false≢true (c.in_err-add.ensures.memory (inl (c.loop-cell.invariant.keeps.known c.cell-item.result.pair had))))

pub returns-clause-known : goal.returns-clause-known
returns-clause-known g c = rw (← take_all c.loop-cell.cell-index c.args.cells.now c.loop-cell-test.false) c.loop-cell.invariant.known
