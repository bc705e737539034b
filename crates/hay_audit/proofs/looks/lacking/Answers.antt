use Rattle.std.proofs.Common.{List, drop, ap, ◌∙◌, arith, drop_of_length-le}
use Rattle.hay_legal.specs.declared.known.ReplicaKnown.{ReplicaKnown}
use Rattle.hay_audit.proofs.Lowest.{lacking_from, lacking_none}
use Rattle.hay_audit.proofs.looks.lacking.Goals as goal

pub returns : goal.returns
returns c =
    c.loop-j.invariant
    ∙ ap (λ (rs : List ReplicaKnown). lacking_from c.args.settings.now c.args.size c.loop-j.j (drop c.loop-j.j c.args.lows.now) rs)
    (drop_of_length-le c.args.replicas.now (omega (arith, c.loop-j-test.false)))
    ∙ lacking_none c.args.settings.now c.args.size c.loop-j.j (drop c.loop-j.j c.args.lows.now)
