use Rattle.std.proofs.Common.{sym, ◌∙◌}
use Rattle.hay_audit.proofs.Slots.{slots_here, slots_next}
use Rattle.hay_audit.proofs.shows.slots_before.Goals as goal

pub returns-then-at-replica : goal.returns-then-at-replica
returns-then-at-replica c =
    sym (c.loop-i.invariant
    ∙ slots_here c.args.settings.now c.args.volume c.args.start c.args.replica c.loop-i.i c.replica_from-at.result c.loop-i.slots c.loop-i-test.true c.replica_from-at.ensures c.if-at-replica.true)

pub loop-i-preserved : goal.loop-i-preserved
loop-i-preserved c =
    c.loop-i.invariant
    ∙ slots_next c.args.settings.now c.args.volume c.args.start c.args.replica c.loop-i.i c.replica_from-at.result c.slot_of.result c.loop-i.slots c.push.new.self
    c.loop-i-test.true c.replica_from-at.ensures c.if-at-replica.false
    c.slot_of.ensures c.in_ok-push.ensures.ok
