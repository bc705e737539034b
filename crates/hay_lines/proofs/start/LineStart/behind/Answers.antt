use Rattle.hay_lines.proofs.Taking.{settled}
use Rattle.hay_lines.proofs.start.LineStart.behind.Goals as goal

pub returns-in-Comment : goal.returns-in-Comment
returns-in-Comment c = settled c.loop-byte.start c.args.self c.args.span.now c.loop-byte.byte-index c.loop-byte.invariant c.in-Comment.is
