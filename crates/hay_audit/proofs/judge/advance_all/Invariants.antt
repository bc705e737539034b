use Rattle.hay_audit.specs.Candidates.{AreKept, AreSmall}
use Rattle.hay_audit.proofs.Placing.{Advanced}
use Rattle.hay_audit.proofs.judge.advance_all.Given as goal

abbrev pub invariant-loop-candidate : goal.invariant-loop-candidate
invariant-loop-candidate l = record {
  all : Advanced l.settings l.line l.item l.transcript l.fn.candidates l.candidate-iterator.rest.items l.out;
  kept : AreKept l.settings l.transcript l.out;
  left : AreKept l.settings l.transcript l.candidate-iterator.rest.items;
  small : AreSmall l.candidate-iterator.rest.items;
}
