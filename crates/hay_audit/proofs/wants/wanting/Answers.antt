use Rattle.std.proofs.Common.{◌-◌, length, take, drop, arith}
use Rattle.hay_audit.proofs.Lists.{all_behind}
use Rattle.hay_audit.proofs.Wanting.{wanting_done, wanting_empty, wanting_last, wanting_more, wanting_none}
use Rattle.hay_audit.proofs.wants.wanting.Goals as goal

pub loop-at-init : goal.loop-at-init
loop-at-init c = wanting_none c.args.transcript.now c.new-lines.result (wanting_empty c.new-lines.result c.new-lines.ensures.empty)

pub returns-in_default : goal.returns-in_default
returns-in_default c =
    wanting_last c.args.transcript.now (take (length c.args.transcript.now - c.loop-at.at) (drop c.loop-at.at c.args.transcript.now)) c.loop-at.at c.loop-at.lines c.add.new.lines
    c.loop-at.invariant c.loop-at-test.true (all_behind c.args.transcript.now c.loop-at.at) c.in_default.ensures.is c.in_ok-add.ensures

pub loop-at-preserved : goal.loop-at-preserved
loop-at-preserved c =
    wanting_more c.args.transcript.now (take (length c.args.transcript.now - c.loop-at.at) (drop c.loop-at.at c.args.transcript.now)) c.loop-at.at c.in-Some.feed c.loop-at.lines
    c.add-in-loop-at.new.lines c.loop-at.invariant c.loop-at-test.true (all_behind c.args.transcript.now c.loop-at.at) c.in-Some.ensures.is c.in-Some.ensures.within c.in_ok-add-2.ensures

pub returns : goal.returns
returns c = wanting_done c.args.transcript.now c.loop-at.at c.loop-at.lines c.loop-at.invariant c.loop-at-test.false
