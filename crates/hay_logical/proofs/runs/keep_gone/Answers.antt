use Rattle.std.proofs.Common.{◌<◌, ◌∙◌, List, length, ap, arith}
use Rattle.std.specs.Prelude.{slice_index_or}
use Rattle.hay_map.specs.Places.{place_in}
use Rattle.hay_map.specs.declared.place.Place.{Place}
use Rattle.hay_map.specs.declared.view.OpenCell.{OpenCell}
use Rattle.hay_logical.specs.Fits.{At}
use Rattle.hay_logical.specs.ReplicaCalls.{still_gone, still_gone_cell}
use Rattle.hay_logical.proofs.Lists.{at_read, went_map, went_start, went_step}
use Rattle.hay_logical.proofs.runs.keep_gone.Goals as goal

pub loop-cell-init : goal.loop-cell-init
loop-cell-init g c = went_start _ c.args.cells.now

pub loop-cell-preserved : goal.loop-cell-preserved
loop-cell-preserved g c =
    let within : c.loop-cell.cell-index < length c.loop-cell.cells = omega arith in
    let here : OpenCell g.row.P.Denot = slice_index_or c.loop-cell.cells c.loop-cell.cell-index c.cell-item.result in
    let there : At c.loop-cell.cells c.loop-cell.cell-index here = at_read c.loop-cell.cells c.loop-cell.cell-index c.cell-item.result within in
    went_step _ _ c.loop-cell.cell-index c.args.cells.now c.loop-cell.cells here c.keep_gone_in.new.cell c.loop-cell.invariant there (λ i a b h p. p)
    (c.keep_gone_in.ensures
    ∙ ap (λ (row : List (Place g.row.P.Denot)). let kept : OpenCell g.row.P.Denot = record here { place = still_gone (place_in row c.args.at) here.place } in kept) c.row-row.ensures.row)

pub returns : goal.returns
returns g c = went_map (still_gone_cell c.args.rows.now c.args.at) c.loop-cell.cell-index c.args.cells.now c.loop-cell.cells c.loop-cell.invariant (omega arith)
