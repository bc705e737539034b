use Rattle.std.proofs.Common.{inl, inr}
use Rattle.hay_audit.proofs.Reopened.{front_goes, front_stops}
use Rattle.hay_audit.proofs.keeps.is_front.Goals as goal
use Rattle.hay_audit.proofs.keeps.is_front.Goals.{else-flag-via-else-flag, else-flag-via-then-flag+else-not-kept_all}

pub returns-then-not-kept_all : goal.returns-then-not-kept_all
returns-then-not-kept_all c =
    front_stops c.args.kept.now c.loop-flag.flag-index c.loop-flag.kept_all c.loop-flag-test.true c.loop-flag.invariant c.if-flag.true c.if-not-kept_all.true

pub loop-flag-preserved : goal.loop-flag-preserved
loop-flag-preserved c =
    elim c.else-flag.branch [
      | else-flag-via-then-flag+else-not-kept_all w ↦
          front_goes c.args.kept.now c.loop-flag.flag-index c.loop-flag.kept_all c.loop-flag-test.true c.loop-flag.invariant (inr w.if-not-kept_all.false)
      | else-flag-via-else-flag w ↦
          front_goes c.args.kept.now c.loop-flag.flag-index c.loop-flag.kept_all c.loop-flag-test.true c.loop-flag.invariant (inl w.if-flag.false)
    ]
