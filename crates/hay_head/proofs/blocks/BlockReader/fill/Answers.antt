use Rattle.std.proofs.Common.{arith}
use Rattle.hay_head.proofs.BlockLaws.{block_grows}
use Rattle.hay_head.proofs.blocks.BlockReader.fill.Goals as goal

pub returns-clause-block : goal.returns-clause-block
returns-clause-block g c = λ tells.
    let fits = g.met.D.Disk.fits c.args.disk.now c.args.self.now.file tells in
    block_grows c.args.self.now.start c.args.self.now.len c.in_ok-got.got c.saturating_add-end.result c.args.self.now.room c.read_behind.new.room
    (g.D.Disk.files c.args.disk.now c.args.self.now.file).now (c.requires tells) (omega arith) fits c.saturating_add-end.ensures
    (omega (arith, c.in_ok-got.ensures.count tells)) (c.in_ok-got.ensures.read tells)
