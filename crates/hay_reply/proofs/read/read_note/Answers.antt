use Rattle.std.proofs.Common.{◌≡◌, ◌∙◌, sym, ap}
use Rattle.std.proofs.lemmas.Bool.{false≢true}
use Rattle.hay_reply.specs.Replies.{note_text}
use Rattle.hay_reply.specs.Reading.{note_of, words_of}
use Rattle.hay_reply.proofs.Back.{back_note}
use Rattle.hay_reply.proofs.read.read_note.Goals as goal

pub returns-in_default-clause-none : goal.returns-in_default-clause-none
returns-in_default-clause-none c = λ note fits e.
    let back = back_note note fits in
    let same = ap (λ t. note_of (words_of t)) e in
    cc (c.in_default.is, c.in_ok-note.ensures)

pub returns-else-branch-clause-none : goal.returns-else-branch-clause-none
returns-else-branch-clause-none c = λ note fits e.
    let back = back_note note fits in
    let same = ap (λ t. note_of (words_of t)) e in
    let it : note ≡ c.in-Some.note = cc (c.in-Some.is, c.in_ok-note.ensures) in
    let yes_text = c.in_ok-writes_note.ensures.1 (ap note_text (sym it) ∙ e) in
    false≢true (sym c.if-branch.false ∙ yes_text)
