use Rattle.std.proofs.Common.{sym, ◌∙◌, arith}
use Rattle.std.proofs.lemmas.Bool.{true≢false}
use Rattle.hay_memdisk.proofs.Listed.{over_later, over_found}
use Rattle.hay_memdisk.proofs.failures.Failures.next_fails.Goals as goal

pub returns-then-not-contains-clause-stays_over : goal.returns-then-not-contains-clause-stays_over
returns-then-not-contains-clause-stays_over c = λ over. over_later c.args.self.now.listed.items c.args.self.now.calls c.in-Some.number (omega (arith, c.in-Some.ensures)) over

pub returns-clause-over : goal.returns-clause-over
returns-clause-over c = λ over.
    sym c.if-not-contains.false ∙ over_found _ _ _ _ _ c.in-Some.ensures.1 c.deref.ensures.value c.contains.ensures.value over

pub returns-clause-stays_over : goal.returns-clause-stays_over
returns-clause-stays_over c = λ over. absurd (true≢false (returns-clause-over c over))
