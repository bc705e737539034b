use Rattle.hay_run.proofs.Drilling.{left_next, left_none}
use Rattle.hay_run.proofs.drill.count_lines.Goals as goal

pub loop-line-preserved : goal.loop-line-preserved
loop-line-preserved c =
    left_next c.args.text.now c.loop-line.left.now c.in-Some.line.now c.in-Some.behind.now c.loop-line.tally c.count_line.new.tally
    c.in-Some.ensures.some.0 c.in-Some.ensures.some.1 c.loop-line.invariant c.in_ok-count_line.ensures

pub returns : goal.returns
returns c = left_none c.args.text.now c.loop-line.left.now c.loop-line.tally c.in_default.ensures.none c.loop-line.invariant
