use Rattle.std.proofs.Common.{◌≡◌, ◌≤◌, ◌<◌, ◌+◌, length, refl, sym, ap, subst, ◌∙◌, arith}
use Rattle.std.specs.Prelude.{Err, min}
use Rattle.hay_legal.specs.declared.known.VolumeKnown.{VolumeKnown}
use Rattle.hay_logical.specs.Answers.{StandsStepped}
use Rattle.hay_logical.specs.Stands.{Stands}
use Rattle.hay_logical.specs.Volumes.{Volume}
use Rattle.hay_logical.proofs.Lists.{at_same}
use Rattle.hay_logical.proofs.Methods.{same_still}
use Rattle.hay_volume_lock.proofs.Examining.{all_known, behind_none, counts_after, counts_none, fault_after, none_more, one_more, others_after, same_after, wanted}
use Rattle.hay_volume_lock.proofs.compactions.examine.Goals as goal

pub loop-examined-init : goal.loop-examined-init
loop-examined-init g c = record {
  told = λ tells k run stands thawed stood. (
    (let low : 0 ≤ run.left = omega arith in low),
    (let many = all_known g.D.Disk.files g.D.Piece.Piece.Tells c.args.logical.now k stands in let within = c.requires.within in
        subst (λ (z : VolumeKnown). Stands g.D.Disk.files g.D.Piece.Piece.Tells c.args.logical.now z)
        (sym (behind_none k c.args.replica run (let less : c.args.replica < length k.replicas = omega (arith, many, within) in less) stood)) stands),
  );
  tight = λ tells k run stands thawed stood j was. was;
  others = λ j other r r' e f. at_same c.args.logical.now.replicas j r' r f e;
  still = refl;
  is_open = c.requires.«open»;
  counts = counts_none g.D.Disk.fault_count g.D.Disk.fuse_count c.args.logical.now.replicas;
  same = same_still c.args.logical.now;
}

pub loop-examined-preserved : goal.loop-examined-preserved
loop-examined-preserved g c =
    let was = c.loop-examined.invariant in
    record {
      told = λ tells k run stands thawed stood.
          let so_far = was.told tells k run stands thawed stood in
          let many = all_known g.D.Disk.files g.D.Piece.Piece.Tells c.args.logical.now k stands in
          let within = c.requires.within in
          let less : c.args.replica < length k.replicas = omega (arith, many, within) in
          let one =
          one_more g.D.Disk.files g.D.Piece.Piece.Tells k c.args.replica run less c.loop-examined.examined c.in-Ok-eq1.field-0 c.step.new.self (c.in-Ok-eq1.ensures.stepped tells _ so_far.1) in
          let few = so_far.0 in
          let some = one.0 in
          let is = c.in-Ok-eq1.field-0-test in (
            (let low : c.loop-examined.examined + 1 ≤ run.left = omega (arith, few, some, is) in low),
            subst (λ n. StandsStepped g.D.Disk.files g.D.Piece.Piece.Tells k c.args.replica run (c.loop-examined.examined + n) c.step.new.self) is one.1,
          );
      tight = λ tells k run stands thawed stood j tight.
          c.in-Ok-eq1.ensures.tight tells _ (was.told tells k run stands thawed stood).1 j (was.tight tells k run stands thawed stood j tight);
      others = others_after g.D.Disk.fault_count g.D.Disk.fuse_count c.args.logical.now c.loop-examined.logical c.step.new.self was.counts c.args.replica was.others c.step.ensures.others;
      still = c.step.ensures.still ∙ ap (λ (v : Volume g.row.D.Denot g.row.D-Piece.Denot). record v { replicas = c.step.new.self.replicas }) was.still;
      is_open = c.step.ensures.«open»;
      counts = counts_after g.D.Disk.fault_count g.D.Disk.fuse_count c.args.logical.now c.loop-examined.logical c.step.new.self was.counts c.step.ensures.counts;
      same = same_after g.D.Disk.fault_count g.D.Disk.fuse_count c.args.logical.now c.loop-examined.logical c.step.new.self was.counts.count was.same c.step.ensures.same;
    }

pub returns-in-Ok-clause-told : goal.returns-in-Ok-clause-told
returns-in-Ok-clause-told g c = λ tells k run stands thawed stood.
    let so_far = c.loop-examined.invariant.told tells k run stands thawed stood in
    let many = all_known g.D.Disk.files g.D.Piece.Piece.Tells c.args.logical.now k stands in
    let within = c.requires.within in
    let less : c.args.replica < length k.replicas = omega (arith, many, within) in
    let one = one_more g.D.Disk.files g.D.Piece.Piece.Tells k c.args.replica run less c.loop-examined.examined c.in-Ok.field-0 c.step.new.self (c.in-Ok.ensures.stepped tells _ so_far.1) in
    let few = so_far.0 in
    let number = one.0 in
    let other = c.in-Ok.field-0-test in
    let test = c.loop-examined-test.true in (
      (let e : c.loop-examined.examined ≡ min c.args.cells run.left = omega (arith, few, number, other, test) in e),
      subst (λ n. StandsStepped g.D.Disk.files g.D.Piece.Piece.Tells k c.args.replica run n c.step.new.self)
          (let e : c.loop-examined.examined + c.in-Ok.field-0 ≡ c.loop-examined.examined = omega (arith, number, other) in e) one.1,
    )

pub returns-in-Ok-clause-counts : goal.returns-in-Ok-clause-counts
returns-in-Ok-clause-counts g c =
    counts_after g.D.Disk.fault_count g.D.Disk.fuse_count c.args.logical.now c.loop-examined.logical c.step.new.self c.loop-examined.invariant.counts c.step.ensures.counts

pub returns-in-Ok-clause-same : goal.returns-in-Ok-clause-same
returns-in-Ok-clause-same g c =
    same_after g.D.Disk.fault_count g.D.Disk.fuse_count c.args.logical.now c.loop-examined.logical c.step.new.self c.loop-examined.invariant.counts.count
    c.loop-examined.invariant.same c.step.ensures.same

pub returns-in-Err-clause-told : goal.returns-in-Err-clause-told
returns-in-Err-clause-told g c = λ tells k run stands thawed stood.
    let so_far = c.loop-examined.invariant.told tells k run stands thawed stood in
    let many = all_known g.D.Disk.files g.D.Piece.Piece.Tells c.args.logical.now k stands in
    let within = c.requires.within in
    let less : c.args.replica < length k.replicas = omega (arith, many, within) in
    none_more g.D.Disk.files g.D.Piece.Piece.Tells k c.args.replica run less c.loop-examined.examined c.args.cells c.args.logical.now c.loop-examined.logical c.step.new.self c.in-Err.fault
    c.loop-examined.invariant.same thawed so_far.0 (let test = c.loop-examined-test.true in let low : c.loop-examined.examined < c.args.cells = omega (arith, test) in low)
    so_far.1 (c.in-Err.ensures.refused tells _ so_far.1)

pub returns-in-Err-clause-causes : goal.returns-in-Err-clause-causes
returns-in-Err-clause-causes g c =
    fault_after g.D.Disk.fault_count g.D.Disk.fuse_count c.args.logical.now c.loop-examined.logical c.step.new.self c.loop-examined.invariant.counts c.loop-examined.invariant.same
    c.args.replica c.in-Err.fault c.in-Err.ensures.causes

pub returns-in-Err-clause-counts : goal.returns-in-Err-clause-counts
returns-in-Err-clause-counts g c =
    counts_after g.D.Disk.fault_count g.D.Disk.fuse_count c.args.logical.now c.loop-examined.logical c.step.new.self c.loop-examined.invariant.counts c.step.ensures.counts

pub returns-in-Err-clause-same : goal.returns-in-Err-clause-same
returns-in-Err-clause-same g c =
    same_after g.D.Disk.fault_count g.D.Disk.fuse_count c.args.logical.now c.loop-examined.logical c.step.new.self c.loop-examined.invariant.counts.count
    c.loop-examined.invariant.same c.step.ensures.same

pub returns-clause-told : goal.returns-clause-told
returns-clause-told g c = λ tells k run stands thawed stood.
    let so_far = c.loop-examined.invariant.told tells k run stands thawed stood in
    let few = so_far.0 in
    let most = c.loop-examined.auto.examined-end in
    let test = c.loop-examined-test.false in
    let done : c.loop-examined.examined ≡ c.args.cells = omega (arith, test, most) in (
      (let e : c.args.cells ≡ min c.args.cells run.left = omega (arith, few, done) in e),
      subst (λ n. StandsStepped g.D.Disk.files g.D.Piece.Piece.Tells k c.args.replica run n c.loop-examined.logical) done so_far.1,
    )

pub returns-in-Ok-clause-tight : goal.returns-in-Ok-clause-tight
returns-in-Ok-clause-tight g c = λ tells k run stands thawed stood still j tight.
    c.in-Ok.ensures.tight tells _ (c.loop-examined.invariant.told tells k run stands thawed stood).1 j (c.loop-examined.invariant.tight tells k run stands thawed stood j tight)

pub returns-in-Ok-clause-others : goal.returns-in-Ok-clause-others
returns-in-Ok-clause-others g c =
    others_after g.D.Disk.fault_count g.D.Disk.fuse_count c.args.logical.now c.loop-examined.logical c.step.new.self c.loop-examined.invariant.counts c.args.replica
    c.loop-examined.invariant.others c.step.ensures.others

pub returns-in-Err-clause-tight : goal.returns-in-Err-clause-tight
returns-in-Err-clause-tight g c = λ tells k run stands thawed stood still j tight.
    c.in-Err.ensures.tight_partly tells _ (c.loop-examined.invariant.told tells k run stands thawed stood).1 j (c.loop-examined.invariant.tight tells k run stands thawed stood j tight)
    (ap Err (wanted c.in-Err.fault still))

pub returns-in-Err-clause-others : goal.returns-in-Err-clause-others
returns-in-Err-clause-others g c =
    others_after g.D.Disk.fault_count g.D.Disk.fuse_count c.args.logical.now c.loop-examined.logical c.step.new.self c.loop-examined.invariant.counts c.args.replica
    c.loop-examined.invariant.others c.step.ensures.others

pub returns-clause-tight : goal.returns-clause-tight
returns-clause-tight g c = λ tells k run stands thawed stood still j tight. c.loop-examined.invariant.tight tells k run stands thawed stood j tight
