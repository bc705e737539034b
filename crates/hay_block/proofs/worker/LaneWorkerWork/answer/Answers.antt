use Rattle.std.proofs.Common.{refl, sym, subst, ◌∙◌}
use Rattle.hay_lane.proofs.Arms.{later_same}
use Rattle.hay_block.specs.Lines.{IsServed}
use Rattle.hay_block.proofs.Chaining.{bad_answered}
use Rattle.hay_block.proofs.worker.LaneWorkerWork.answer.Goals as goal

pub returns-in-Command-clause-answered : goal.returns-in-Command-clause-answered
returns-in-Command-clause-answered g c = rw c.new.ensures (
  refl,
  record {
    seated = c.answer-reply.ensures.seated;
    same = c.answer-reply.ensures.same;
    answered = λ start of. rw c.in-Command.is (c.answer-reply.ensures.answered start of);
    fits_reply = c.answer-reply.ensures.fits;
    suits = rw c.in-Command.is c.answer-reply.ensures.suits;
    bad = λ is. let clash = sym c.in-Command.is ∙ is in absurd cc;
    unfused = c.answer-reply.ensures.unfused (subst IsServed c.in-Command.is c.requires.1).1;
    blames = c.answer-reply.ensures.blames;
    arm = c.answer-reply.ensures.arm;
  },
)

pub returns-in-Bad-clause-answered : goal.returns-in-Bad-clause-answered
returns-in-Bad-clause-answered g c = rw c.new-in-Bad.ensures (
  refl,
  record {
    seated = c.requires.0;
    same = λ start of. of;
    answered = λ start of. bad_answered _ start _ _ _ _ _ c.in-Bad.is;
    fits_reply = tt;
    suits = rw c.in-Bad.is tt;
    bad = λ is. refl;
    unfused = λ none. none;
    blames = record { each = tt; rises = tt };
    arm = later_same refl;
  },
)
