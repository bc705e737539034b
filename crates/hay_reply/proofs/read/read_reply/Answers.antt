use Rattle.std.proofs.Common.{◌≡◌, ◌∙◌, sym, ap}
use Rattle.std.proofs.lemmas.Bool.{false≢true}
use Rattle.hay_reply.specs.Replies.{reply_text}
use Rattle.hay_reply.specs.Reading.{reply_of, words_of}
use Rattle.hay_reply.proofs.Back.{back_reply}
use Rattle.hay_reply.proofs.read.read_reply.Goals as goal

pub returns-in_default-clause-none : goal.returns-in_default-clause-none
returns-in_default-clause-none c = λ reply fits e.
    let back = back_reply reply fits in
    let same = ap (λ t. reply_of (words_of t)) e in
    cc (c.in_default.is, c.in_ok-reply.ensures)

pub returns-else-branch-clause-none : goal.returns-else-branch-clause-none
returns-else-branch-clause-none c = λ reply fits e.
    let back = back_reply reply fits in
    let same = ap (λ t. reply_of (words_of t)) e in
    let it : reply ≡ c.in-Some.reply = cc (c.in-Some.is, c.in_ok-reply.ensures) in
    let yes_text = c.in_ok-writes_reply.ensures.1 (ap reply_text (sym it) ∙ e) in
    false≢true (sym c.if-branch.false ∙ yes_text)
