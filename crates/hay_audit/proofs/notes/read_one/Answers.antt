use Rattle.std.proofs.Common.{◌≡◌, ◌≢◌, ℕ, List, ◌++◌, take, Option, subst, arith}
use Rattle.std.specs.Prelude.{IfNone, IfSome}
use Rattle.hay_reply.specs.declared.Note.{Note}
use Rattle.hay_reply.specs.Fits.{FitsNote}
use Rattle.hay_reply.specs.Replies.{note_text}
use Rattle.hay_audit.proofs.Noting.{no_feed, no_note, note_is}
use Rattle.hay_audit.proofs.Reading.{line_is}
use Rattle.hay_audit.proofs.notes.read_one.Goals as goal

pub returns-in_default-clause-none : goal.returns-in_default-clause-none
returns-in_default-clause-none c = λ note rest fits e. no_feed c.args.text.now c.in_default.ensures.is note rest e

pub returns-in_default-2-clause-none : goal.returns-in_default-2-clause-none
returns-in_default-2-clause-none c = λ note rest fits e.
    no_note c.args.text.now c.in-Some.feed (line_is c.args.text.now c.in-Some.feed c.in-Some.ensures.is)
    (subst (λ (o : Option Note). IfNone o ((n : Note) → FitsNote n → note_text n ≢ take c.in-Some.feed c.args.text.now)) c.in_default-2.is c.in_ok-note.ensures.none)
    note rest fits e

pub returns-clause-some : goal.returns-clause-some
returns-clause-some c =
    let note = subst (λ (o : Option Note). IfSome o (λ n. note_text n ≡ take c.in-Some.feed c.args.text.now)) c.in-Some-2.is c.in_ok-note.ensures.some in
    let line = line_is c.args.text.now c.in-Some.feed c.in-Some.ensures.is in
    (omega (arith, line.within), c.fit_note.ensures, note_is c.in-Some-2.note c.args.text.now c.in-Some.feed line note)
