use Rattle.std.proofs.Common.{drop}
use Rattle.std.specs.List.{AllByRecursion as Each}
use Rattle.hay_reply.specs.Fits.{FitsRow}
use Rattle.hay_audit.proofs.notes.fit_rows.Given as goal

abbrev pub invariant-loop-row : goal.invariant-loop-row
invariant-loop-row l = Each FitsRow (drop l.row-index l.rows) → Each FitsRow l.rows
