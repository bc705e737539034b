use Rattle.std.proofs.Common.{◌∙◌}
use Rattle.hay_legal.specs.Known as known
use Rattle.hay_audit.proofs.Lists.{range_on}
use Rattle.hay_audit.proofs.refusals.all_tries.Goals as goal

pub loop-turn-preserved : goal.loop-turn-preserved
loop-turn-preserved c =
    range_on (known.try_at c.args.settings.now c.args.pair) c.loop-turn.tries c.push.new.self c.loop-turn.turn c.args.settings.now.volumes c.try_at.result c.loop-turn-test.true
    c.try_at.ensures c.in_ok-push.ensures.ok
    ∙ c.loop-turn.invariant
