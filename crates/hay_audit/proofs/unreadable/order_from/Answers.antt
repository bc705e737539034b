use Rattle.std.proofs.Common.{◌+◌, ◌%◌, ◌∙◌, ℕ}
use Rattle.hay_audit.proofs.Lists.{range_on}
use Rattle.hay_audit.proofs.unreadable.order_from.Goals as goal

pub loop-i-preserved : goal.loop-i-preserved
loop-i-preserved c =
    range_on (λ (i : ℕ). (c.args.start + i) % c.args.settings.now.replicas) c.loop-i.order c.push.new.self c.loop-i.i c.args.settings.now.replicas c.replica_from.result
    c.loop-i-test.true c.replica_from.ensures c.in_ok-push.ensures.ok
    ∙ c.loop-i.invariant
