use Rattle.std.proofs.Common.{◌≡◌, ◌≢◌, ℕ, ◌≤◌, ◌-◌, List, ◌++◌, length, take, drop, Option, sym, subst, arith}
use Rattle.std.specs.Prelude.{IfNone, IfSome}
use Rattle.std.proofs.lemmas.List.{length-drop}
use Rattle.hay_reply.specs.declared.Note.{Note}
use Rattle.hay_reply.specs.Fits.{FitsNote}
use Rattle.hay_reply.specs.Replies.{note_line}
use Rattle.hay_audit.specs.declared.notes.Told.{Told}
use Rattle.hay_audit.proofs.Lists.{all_behind}
use Rattle.hay_audit.proofs.Noting.{NotesRead, none_next, none_read, read_on}
use Rattle.hay_audit.proofs.notes.read_notes.Goals as goal

pub loop-alloc-init : goal.loop-alloc-init
loop-alloc-init c = subst (λ (ns : List Note). NotesRead c.args.text.now c.args.count ns 0) (sym c.new-notes.ensures) (none_read c.args.text.now c.args.count)

pub returns-in_default-clause-none : goal.returns-in_default-clause-none
returns-in_default-clause-none c =
    none_next c.args.text.now (take (length c.args.text.now - c.loop-alloc.behind) (drop c.loop-alloc.behind c.args.text.now)) c.args.count c.loop-alloc.notes c.loop-alloc.behind
    c.loop-alloc.invariant
    (omega (arith, c.loop-alloc-test.true, c.len.ensures)) (all_behind c.args.text.now c.loop-alloc.behind)
    (subst (λ (o : Option Told). IfNone o ((n : Note) (rest : List ℕ) → FitsNote n → note_line n ++ rest
    ≢ take (length c.args.text.now - c.loop-alloc.behind) (drop c.loop-alloc.behind c.args.text.now))) c.in_default.is c.in_ok-told.ensures.none)

pub loop-alloc-preserved : goal.loop-alloc-preserved
loop-alloc-preserved c =
    let part : List ℕ = take (length c.args.text.now - c.loop-alloc.behind) (drop c.loop-alloc.behind c.args.text.now) in
    let told = subst (λ (o : Option Told). IfSome o (λ t. (t.behind ≤ length (take (length c.args.text.now - c.loop-alloc.behind) (drop c.loop-alloc.behind c.args.text.now))) × FitsNote t.note
    × (note_line t.note ++ drop t.behind (take (length c.args.text.now - c.loop-alloc.behind) (drop c.loop-alloc.behind c.args.text.now))
    ≡ take (length c.args.text.now - c.loop-alloc.behind) (drop c.loop-alloc.behind c.args.text.now)))) c.in-Some.is c.in_ok-told.ensures.some in
    read_on c.args.text.now (take (length c.args.text.now - c.loop-alloc.behind) (drop c.loop-alloc.behind c.args.text.now)) c.args.count c.loop-alloc.notes c.push.new.self
    c.loop-alloc.behind (c.in-Some.told).behind (c.in-Some.told).note c.loop-alloc.invariant
    (omega (arith, c.loop-alloc-test.true, c.len.ensures)) (all_behind c.args.text.now c.loop-alloc.behind) told.0 told.1 told.2 c.in_ok-push.ensures.ok

pub returns-clause-some : goal.returns-clause-some
returns-clause-some c =
    ((c.loop-alloc.invariant).within, omega (arith, (c.loop-alloc.invariant).few, c.loop-alloc-test.false, c.len.ensures), (c.loop-alloc.invariant).fits, (c.loop-alloc.invariant).parts)
