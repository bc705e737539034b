use Rattle.std.proofs.Common.{List, subst}
use Rattle.hay_audit.specs.declared.judge.Candidate.{Candidate}
use Rattle.hay_audit.specs.Candidates.{AreKept, AreSmall}
use Rattle.hay_audit.proofs.Placing.{advanced_more}
use Rattle.hay_audit.proofs.judge.advance_all.Goals as goal

pub loop-candidate-preserved : goal.loop-candidate-preserved
loop-candidate-preserved c = record {
  all =
      advanced_more c.args.settings.now c.args.line c.args.item.now c.args.transcript.now c.args.candidates c.loop-candidate.candidate-iterator.rest.items
      c.next.new.self.rest.items c.loop-candidate.out c.advance_one.new.out
      c.in-Some.candidate (c.loop-candidate.invariant).all (c.in-Some.ensures.steps).0 c.in_ok-advance_one.ensures.went;
  kept = c.in_ok-advance_one.ensures.kept (c.loop-candidate.invariant).kept;
  left = (subst (λ (xs : List Candidate). AreKept c.args.settings.now c.args.transcript.now xs) (c.in-Some.ensures.steps).0 (c.loop-candidate.invariant).left).1;
  small = (subst (λ (xs : List Candidate). AreSmall xs) (c.in-Some.ensures.steps).0 (c.loop-candidate.invariant).small).1;
}
