use Rattle.std.proofs.Common.{◌≡◌}
use Rattle.hay_logical.specs.ReplicaCalls.{still_gone_cell}
use Rattle.hay_logical.proofs.Lists.{Went}
use Rattle.hay_logical.proofs.runs.keep_gone.Given as goal

abbrev pub invariant-loop-cell : goal.invariant-loop-cell
invariant-loop-cell g l = Went (λ i cell kept. kept ≡ still_gone_cell l.rows l.at cell) l.cell-index l.fn.cells l.cells
