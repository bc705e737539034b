use Rattle.std.proofs.Common.{refl, sym, subst, ◌∙◌, drop, arith}
use Rattle.hay_index.specs.Records.{BeginsWithBlock}
use Rattle.hay_open.proofs.Walks.{walk_begins, walk_block, walk_ends, walk_on}
use Rattle.hay_open.proofs.record.record_place.Goals as goal

pub blocks-2-init : goal.blocks-2-init
blocks-2-init g c = record {
  same = λ tells. refl;
  walked = λ tells superblock records end is below. walk_begins superblock (g.D.Disk.files c.args.disk.now c.args.file).now records end c.args.number is;
  faults = omega arith;
  fuses = refl;
}

pub returns-then-left-count-clause-place : goal.returns-then-left-count-clause-place
returns-then-left-count-clause-place g c = λ tells superblock records end is below.
    let file = (g.D.Disk.files c.args.disk.now c.args.file).now in
    let fits = g.met.D.Disk.fits c.args.disk.now c.args.file tells in
    let w = c.blocks-2.invariant.walked tells superblock records end is below in
    let b = walk_block superblock file records c.blocks-2.start c.blocks-2.left c.args.number below w in
    let counts =
    c.in_ok-count.ensures.count tells b.block (subst (λ files. BeginsWithBlock (drop c.blocks-2.start (files c.args.file).now) b.block) (sym (c.blocks-2.invariant.same tells)) b.begins) in
    walk_ends superblock file records c.blocks-2.start c.blocks-2.left c.args.number c.in_ok-count.count c.saturating_add-first.result c.saturating_add.result w b fits counts
    c.if-left-count.true c.saturating_add-first.ensures
    (omega (arith, c.saturating_add.ensures, c.saturating_mul.ensures))

pub blocks-2-preserved : goal.blocks-2-preserved
blocks-2-preserved g c = record {
  same = λ tells. c.block_len.ensures.same tells ∙ c.blocks-2.invariant.same tells;
  walked = λ tells superblock records end is below.
      let file = (g.D.Disk.files c.args.disk.now c.args.file).now in
      let fits = g.met.D.Disk.fits c.args.disk.now c.args.file tells in
      let w = c.blocks-2.invariant.walked tells superblock records end is below in
      let b = walk_block superblock file records c.blocks-2.start c.blocks-2.left c.args.number below w in
      let counts =
      c.in_ok-count.ensures.count tells b.block (subst (λ files. BeginsWithBlock (drop c.blocks-2.start (files c.args.file).now) b.block) (sym (c.blocks-2.invariant.same tells)) b.begins) in
      walk_on superblock file records c.blocks-2.start c.blocks-2.left c.args.number c.in_ok-count.count c.saturating_add-first.result _ c.saturating_add-start.result w b fits
      counts c.if-left-count.false c.saturating_add-first.ensures refl
      (omega (arith, c.saturating_add-start.ensures, c.saturating_mul-in-blocks-2.ensures));
  faults = omega (arith, c.block_len.ensures.counted.later, c.blocks-2.invariant.faults);
  fuses = c.block_len.ensures.fuses ∙ c.blocks-2.invariant.fuses;
}
