use Rattle.hay_reply.specs.declared.Reply.TheVariants.{NoMem}
use Rattle.hay_reply.specs.Replies.{numbered_line}
use Rattle.hay_run.proofs.Turning.{wrote_part}
use Rattle.hay_run.proofs.turns.refuse.Goals as goal

pub returns-in-Ok-clause-wanting : goal.returns-in-Ok-clause-wanting
returns-in-Ok-clause-wanting g c = λ is. (
  λ e. cc,
  wrote_part (g.K.Sink.written c.args.sink.now) (g.K.Sink.written c.write_reply.new.sink) (numbered_line c.args.number NoMem) c.in-Ok.ensures.wrote,
)
