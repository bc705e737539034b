use Rattle.hay_run.proofs.Drilling.{last_next}
use Rattle.hay_run.proofs.drill.last_line.Goals as goal

pub loop-behind-preserved : goal.loop-behind-preserved
loop-behind-preserved c =
    last_next c.args.text.now c.loop-behind.last.now c.loop-behind.left.now c.in-Some.field-0-0.now c.in-Some.behind.now
    c.in-Some.ensures.some.0 c.in-Some.ensures.some.1 c.loop-behind.invariant
