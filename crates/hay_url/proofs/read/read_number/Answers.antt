use Rattle.std.proofs.Common.{◌≡◌, take, subst, arith}
use Rattle.std.proofs.lemmas.Bool.{false≢true}
use Rattle.std.proofs.lemmas.List.{take_all}
use Rattle.hay_url.proofs.Decimals.{Reading, stuck_at, ended, go_on_at}
use Rattle.hay_url.proofs.read.read_number.Goals as goal

pub returns-in-None-clause-fault : goal.returns-in-None-clause-fault
returns-in-None-clause-fault c =
    stuck_at c.args.mark c.requires c.args.text.now c.loop-at.at c.loop-at.number c.loop-at-test.true c.loop-at.invariant
    (λ some e. absurd (false≢true (c.if-ends_number.ensures.1 (some, e)))) c.in-None.ensures

pub loop-at-preserved : goal.loop-at-preserved
loop-at-preserved c =
    rw (c.in-Some.ensures.1) (go_on_at c.args.text.now c.loop-at.at c.loop-at.number c.loop-at-test.true c.loop-at.invariant c.in-Some.ensures.0)

pub returns-clause-fault : goal.returns-clause-fault
returns-clause-fault c =
    let text = c.args.text.now in
    let whole : take c.loop-at.at text ≡ text = take_all c.loop-at.at text (omega arith) in
    ended c.args.mark c.requires text c.loop-at.number (subst (λ p. Reading p c.loop-at.number) whole c.loop-at.invariant)
