use Rattle.std.proofs.Common.{arith}
use Rattle.hay_audit.proofs.Joining.{falls_more}
use Rattle.hay_audit.proofs.joins.none_falls.Goals as goal

pub loop-i-preserved : goal.loop-i-preserved
loop-i-preserved c = (
  falls_more c.args.before.now c.args.after.now c.loop-i.i c.loop-i-test.true (omega (arith, c.loop-i-test.true, (c.loop-i.invariant).1)) (c.loop-i.invariant).0 c.if-before-i.false,
  (c.loop-i.invariant).1,
)
