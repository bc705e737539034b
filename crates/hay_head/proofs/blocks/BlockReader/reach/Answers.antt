use Rattle.std.proofs.Common.{ℕ, arith, sym, subst}
use Rattle.hay_head.proofs.BlockLaws.{block_begins}
use Rattle.hay_head.specs.Blocks.{IsBlock}
use Rattle.hay_head.proofs.blocks.BlockReader.reach.Goals as goal

pub fill-requires : goal.fill-requires
fill-requires g c = λ tells.
    let old = c.args.self.now in
    let new = c.begin_at.new.self in
    let files = g.D.Disk.files c.args.disk.now in
    let begins =
    block_begins old.start old.len c.args.at new.len old.room new.room (files old.file).now (c.requires.block tells) c.requires.reaches.begun
    (omega (arith, c.begin_at.ensures.start, c.begin_at.ensures.end)) c.begin_at.ensures.keeps in
    subst (λ (n : ℕ). IsBlock new.start new.len new.room (files n).now) (sym c.begin_at.ensures.file)
    (subst (λ (k : ℕ). IsBlock k new.len new.room (files old.file).now) (sym c.begin_at.ensures.start) begins)
