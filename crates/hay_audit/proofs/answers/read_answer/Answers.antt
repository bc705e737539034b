use Rattle.std.proofs.Common.{◌≡◌, ◌≢◌, ℕ, List, [], ◌∷◌, ◌++◌, length, take, drop, Option, sym, subst, ◌∙◌, ◌-◌, arith, decimal}
use Rattle.std.specs.Prelude.{IfNone, IfSome, ◌≤◌}
use Rattle.hay_reply.specs.declared.Reply.{Reply}
use Rattle.hay_reply.specs.Fits.{FitsReply}
use Rattle.hay_reply.specs.Replies.{reply_text}
use Rattle.hay_audit.proofs.Reading.{all_behind, answer_is, line_is, no_answer, no_reply, other_number}
use Rattle.hay_audit.proofs.answers.read_answer.Goals as goal

pub returns-in_default-clause-none : goal.returns-in_default-clause-none
returns-in_default-clause-none c = λ reply rest fits e. no_answer c.args.line c.args.text.now c.in_default.ensures.is reply rest e

pub returns-in_default-2-clause-none : goal.returns-in_default-2-clause-none
returns-in_default-2-clause-none c = λ reply rest fits e.
    other_number c.args.line c.args.text.now c.in-Some.feed c.ranges.line.fits (line_is c.args.text.now c.in-Some.feed c.in-Some.ensures.is)
    (subst (λ (o : Option ℕ). IfNone o ((behind : List ℕ) → take c.in-Some.feed c.args.text.now ≢ (decimal c.args.line ++ 32 ∷ []) ++ behind)) c.in_default-2.is c.in_ok-start.ensures.none)
    reply rest fits e

pub returns-in_default-3-clause-none : goal.returns-in_default-3-clause-none
returns-in_default-3-clause-none c = λ reply rest fits e.
    let front = take c.in-Some.feed c.args.text.now in
    let number =
    subst (λ (o : Option ℕ). IfSome o (λ n. (n ≤ length (take c.in-Some.feed c.args.text.now))
    × (take c.in-Some.feed c.args.text.now ≡ (decimal c.args.line ++ 32 ∷ []) ++ drop n (take c.in-Some.feed c.args.text.now)))) c.in-Some-2.is c.in_ok-start.ensures.some in
    let none =
    subst (λ (o : Option Reply). IfNone o ((r : Reply) → FitsReply r → reply_text r ≢ take (length (take c.in-Some.feed c.args.text.now) - c.in-Some-2.start)
    (drop c.in-Some-2.start (take c.in-Some.feed c.args.text.now)))) c.in_default-3.is c.in_ok-reply.ensures.none in
    no_reply c.args.line c.args.text.now c.in-Some.feed c.in-Some-2.start c.ranges.line.fits (line_is c.args.text.now c.in-Some.feed c.in-Some.ensures.is) number.1
    (λ r fit is. none r fit (is ∙ sym (all_behind (take c.in-Some.feed c.args.text.now) c.in-Some-2.start)))
    reply rest fits e

pub returns-clause-some : goal.returns-clause-some
returns-clause-some c =
    let number =
    subst (λ (o : Option ℕ). IfSome o (λ n. (n ≤ length (take c.in-Some.feed c.args.text.now))
    × (take c.in-Some.feed c.args.text.now ≡ (decimal c.args.line ++ 32 ∷ []) ++ drop n (take c.in-Some.feed c.args.text.now)))) c.in-Some-2.is c.in_ok-start.ensures.some in
    let reply =
    subst (λ (o : Option Reply). IfSome o (λ r. reply_text r ≡ take (length (take c.in-Some.feed c.args.text.now) - c.in-Some-2.start)
    (drop c.in-Some-2.start (take c.in-Some.feed c.args.text.now)))) c.in-Some-3.is c.in_ok-reply.ensures.some in
    let line = line_is c.args.text.now c.in-Some.feed c.in-Some.ensures.is in (
      omega (arith, line.within),
      answer_is c.args.line c.in-Some-3.reply c.args.text.now c.in-Some.feed c.in-Some-2.start line number.1 (reply ∙ all_behind (take c.in-Some.feed c.args.text.now) c.in-Some-2.start),
    )
