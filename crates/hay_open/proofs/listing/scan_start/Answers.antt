use Rattle.std.proofs.Common.{arith, sym}
use Rattle.hay_index.proofs.RowLaws.{behind_last}
use Rattle.hay_open.proofs.CellRows.{behind_sum}
use Rattle.hay_open.proofs.listing.scan_start.Goals as goal

pub returns-in-Some-clause-is : goal.returns-in-Some-clause-is
returns-in-Some-clause-is c =
    let behind = behind_last 64 c.args.records.now c.in-Some.last.now c.requires (sym c.in-Some.ensures.value) in
    omega (arith, behind, c.saturating_add.ensures, c.total_of.ensures)

pub returns-in-Some-clause-from : goal.returns-in-Some-clause-from
returns-in-Some-clause-from c =
    let behind = behind_last 64 c.args.records.now c.in-Some.last.now c.requires (sym c.in-Some.ensures.value) in
    let sum = behind_sum 64 c.args.records.now in
    omega (arith, behind, sum, c.saturating_add.ensures, c.total_of.ensures)
