use Rattle.std.proofs.Common.{refl, inl, inr}
use Rattle.hay_audit.specs.declared.judge.Candidate.{Candidate}
use Rattle.hay_audit.specs.Joined.{StandsFor}
use Rattle.hay_audit.proofs.Joining.{any_here}
use Rattle.hay_audit.proofs.joins.is_covered.Goals as goal

pub loop-one-preserved : goal.loop-one-preserved
loop-one-preserved c = λ later.
    c.loop-one.invariant
    (any_here (λ (one : Candidate). StandsFor one c.args.candidate.now) c.args.kept.now c.loop-one.one-index c.one-item.result c.loop-one-test.true c.one-item.is (inr later))

pub returns-then-stands_for : goal.returns-then-stands_for
returns-then-stands_for c = λ _.
    c.loop-one.invariant
    (any_here (λ (one : Candidate). StandsFor one c.args.candidate.now) c.args.kept.now c.loop-one.one-index c.one-item.result c.loop-one-test.true c.one-item.is (inl (c.if-stands_for.ensures refl)))
