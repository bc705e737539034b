use Rattle.std.proofs.Common.{arith}
use Rattle.hay_dirfile.proofs.JournalLaws.{row_read, no_volume}
use Rattle.hay_dirfile.proofs.row.row_in.Goals as goal

pub returns-then-row-volumes-clause-none : goal.returns-then-row-volumes-clause-none
returns-then-row-volumes-clause-none c = λ row of is.
    no_volume c.args.volumes c.u32_at-2.result c.args.bytes.now row c.ranges.volumes.fits c.u32_at-2.ensures c.if-row-volumes.true of is

pub returns-clause-row : goal.returns-clause-row
returns-clause-row c =
    row_read c.args.volumes c.u64_at.result c.u32_at.result c.u32_at-2.result c.args.bytes.now (λ i. omega (arith, c.type_inv.bytes i)) c.requires.long c.requires.magic
    c.u64_at.ensures c.u32_at.ensures c.u32_at-2.ensures c.if-row-volumes.false
