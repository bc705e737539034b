use Rattle.std.proofs.Common.{[], ◌∷◌, arith}
use Rattle.hay_lines.proofs.Taking.{took_more}
use Rattle.hay_frame.proofs.frame.take_transcript.Goals as goal

pub returns-in-Some-clause-long : goal.returns-in-Some-clause-long
returns-in-Some-clause-long g c = λ long. (
  c.in_ok-transcript.transcript.items,
  c.in-Some._byte,
  omega (arith, c.in_ok-transcript.ensures.within),
  took_more (g.S.Source.left c.args.source.now) (g.S.Source.left c.take_bytes.new.source) (g.S.Source.left c.take_byte.new.source)
      c.in_ok-transcript.transcript.items (c.in-Some._byte ∷ []) c.in_ok-transcript.ensures.took
      (c.in_ok-_byte.ensures.some c.in-Some._byte c.in-Some.is),
)
