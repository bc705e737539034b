use Rattle.std.proofs.Common.{refl, replicate, ◌∙◌, drop}
use Rattle.hay_open.proofs.Walks.{block_counted, counted_once}
use Rattle.hay_open.proofs.record.block_len.Goals as goal

pub returns-clause-count : goal.returns-clause-count
returns-clause-count g c = λ tells block begins.
    let file = (g.D.Disk.files c.args.disk.now c.args.file).now in
    let fits = g.met.D.Disk.fits c.args.disk.now c.args.file tells in
    counted_once c.u64_at.result c.max.result block (drop c.args.at file) c.max.ensures
    (c.u64_at.ensures ∙ block_counted c.args.at c.in_ok-read_into.field-0 (replicate 16 0) c.read_into.new.out file block refl (c.in_ok-read_into.ensures.count tells)
    (c.in_ok-read_into.ensures.bytes tells) fits begins) begins
