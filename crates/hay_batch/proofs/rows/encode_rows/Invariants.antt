use Rattle.std.proofs.Common.{◌≡◌, take, All}
use Rattle.std.specs.List.{flat_map}
use Rattle.hay_dirfile.specs.Journal.{journal_row}
use Rattle.hay_batch.specs.Batches.{RowFits}
use Rattle.hay_batch.proofs.rows.encode_rows.Given as goal

abbrev pub invariant-loop-row : goal.invariant-loop-row
invariant-loop-row l = record {
  bytes : l.bytes.items ≡ flat_map journal_row (take l.row-index l.rows);
  fit : All RowFits (take l.row-index l.rows);
}
