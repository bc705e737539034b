use Rattle.std.proofs.lemmas.List.Elements.{All-more}
use Rattle.hay_batch.specs.Batches.{RowFits}
use Rattle.hay_batch.proofs.RowRuns.{rows_more}
use Rattle.hay_batch.proofs.rows.encode_rows.Goals as goal

pub loop-row-preserved : goal.loop-row-preserved
loop-row-preserved c = record {
  bytes =
      rows_more c.args.rows.now c.loop-row.row-index _ c.loop-row.bytes.items c.extend_from_slice.new.self.items c.row_bytes.result c.loop-row-test.true c.row_bytes.ensures.bytes
      c.loop-row.invariant.bytes c.in_ok-extend_from_slice.ensures.items;
  fit = All-more RowFits c.args.rows.now c.loop-row.row-index _ c.loop-row-test.true c.loop-row.invariant.fit c.row_bytes.ensures.fits;
}
