use Rattle.std.proofs.Common.{arith, ap, ◌∙◌, ◌++◌, drop}
use Rattle.hay_head.proofs.BlockLaws.{block_gives}
use Rattle.hay_head.proofs.blocks.BlockReader.read_into.Goals as goal

pub returns-clause-bytes : goal.returns-clause-bytes
returns-clause-bytes g c = λ tells.
    c.copy_into.ensures.bytes
    ∙ ap (λ l. l ++ drop c.copy_into.result c.args.out.now)
    (block_gives c.reach.new.self.start c.reach.new.self.len c.args.at c.copy_into.result c.reach.new.self.room (g.D.Disk.files c.args.disk.now c.args.self.now.file).now
    (c.reach.ensures.block tells) c.reach.ensures.reaches.begun
    (omega (arith, c.copy_into.ensures.count, c.reach.ensures.reaches.not_passed)))
