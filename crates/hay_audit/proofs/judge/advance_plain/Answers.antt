use Rattle.std.proofs.Common.{◌≡◌, ◌≢◌, ℕ, ◌-◌, ◌≤◌, List, ◌++◌, length, take, drop, Option, subst}
use Rattle.std.specs.Prelude.{IfNone, IfSome}
use Rattle.hay_reply.specs.declared.Reply.{Reply}
use Rattle.hay_reply.specs.Fits.{FitsReply}
use Rattle.hay_reply.specs.Replies.{numbered_line}
use Rattle.hay_audit_steps.specs.BoxPlain.{box_plain}
use Rattle.hay_audit_steps.specs.Boxes.{Box}
use Rattle.hay_audit.specs.declared.answers.Answer.{Answer}
use Rattle.hay_audit.proofs.Judging.{lines_keep}
use Rattle.hay_audit.proofs.Lists.{all_behind}
use Rattle.hay_audit.proofs.Opening.{reply_starts}
use Rattle.hay_audit.proofs.Placing.{goes_nowhere, goes_to, placed_kept, told_so}
use Rattle.hay_audit.proofs.judge.advance_plain.Goals as goal

pub returns-in_default-read-clause-went : goal.returns-in_default-read-clause-went
returns-in_default-read-clause-went c =
    goes_nowhere c.args.settings.now c.args.line c.args.item.now c.args.transcript.now
    (take (length c.args.transcript.now - c.args.candidate.at) (drop c.args.candidate.at c.args.transcript.now)) c.args.candidate c.args.out.now
    (all_behind c.args.transcript.now c.args.candidate.at)
    (subst (λ (o : Option Answer). IfNone o ((r : Reply) (rest : List ℕ) → FitsReply r
    → numbered_line c.args.line r ++ rest ≢ take (length c.args.transcript.now - c.args.candidate.at) (drop c.args.candidate.at c.args.transcript.now))) c.in_default-read.is
    c.in-Ok.ensures.none)

pub returns-clause-went : goal.returns-clause-went
returns-clause-went c =
    let read =
    subst (λ (o : Option Answer). IfSome o (λ answer. (answer.behind ≤ length (take (length c.args.transcript.now - c.args.candidate.at)
    (drop c.args.candidate.at c.args.transcript.now))) × (numbered_line c.args.line answer.reply
    ++ drop answer.behind (take (length c.args.transcript.now - c.args.candidate.at) (drop c.args.candidate.at c.args.transcript.now))
    ≡ take (length c.args.transcript.now - c.args.candidate.at) (drop c.args.candidate.at c.args.transcript.now)))) c.in-Some.is c.in-Ok.ensures.some in
    goes_to c.args.settings.now c.args.line c.args.item.now c.args.transcript.now (take (length c.args.transcript.now - c.args.candidate.at)
    (drop c.args.candidate.at c.args.transcript.now)) c.args.candidate c.args.out.now c.push_all.new.out
    (c.in-Some.answer).reply (c.in-Some.answer).behind c.in_ok-states.states (all_behind c.args.transcript.now c.args.candidate.at) c.requires.plain c.fits.ensures
    (told_so c.args.transcript.now (take (length c.args.transcript.now - c.args.candidate.at) (drop c.args.candidate.at c.args.transcript.now)) c.args.line c.args.item.now
    c.args.candidate.at (c.in-Some.answer).behind (c.in-Some.answer).reply c.ranges.line.fits c.requires.shut (c.requires.kept).start
    (all_behind c.args.transcript.now c.args.candidate.at) read.1)
    (c.requires.kept).of c.in_ok-states.ensures read.1 c.in_ok-push_all.ensures

pub returns-clause-kept : goal.returns-clause-kept
returns-clause-kept c = λ h.
    let read =
    subst (λ (o : Option Answer). IfSome o (λ answer. (answer.behind ≤ length (take (length c.args.transcript.now - c.args.candidate.at)
    (drop c.args.candidate.at c.args.transcript.now))) × (numbered_line c.args.line answer.reply
    ++ drop answer.behind (take (length c.args.transcript.now - c.args.candidate.at) (drop c.args.candidate.at c.args.transcript.now))
    ≡ take (length c.args.transcript.now - c.args.candidate.at) (drop c.args.candidate.at c.args.transcript.now)))) c.in-Some.is c.in-Ok.ensures.some in
    placed_kept c.args.settings.now c.args.transcript.now (take (length c.args.transcript.now - c.args.candidate.at) (drop c.args.candidate.at c.args.transcript.now))
    c.args.candidate.at (c.in-Some.answer).behind c.args.out.now c.push_all.new.out c.in_ok-states.states
    (all_behind c.args.transcript.now c.args.candidate.at) (c.requires.kept).within read.0
    (reply_starts c.args.transcript.now (take (length c.args.transcript.now - c.args.candidate.at) (drop c.args.candidate.at c.args.transcript.now)) c.args.line c.args.candidate.at
    (c.in-Some.answer).behind (c.in-Some.answer).reply (c.requires.kept).start (all_behind c.args.transcript.now c.args.candidate.at) read.1)
    (lines_keep c.args.settings.now c.args.line c.args.item.now c.args.candidate.state (c.in-Some.answer).reply c.in_ok-states.states
    (told_so c.args.transcript.now (take (length c.args.transcript.now - c.args.candidate.at) (drop c.args.candidate.at c.args.transcript.now)) c.args.line c.args.item.now
    c.args.candidate.at (c.in-Some.answer).behind (c.in-Some.answer).reply c.ranges.line.fits c.requires.shut (c.requires.kept).start
    (all_behind c.args.transcript.now c.args.candidate.at) read.1) (c.requires.kept).of c.in_ok-states.ensures)
    c.in_ok-push_all.ensures h
