use Rattle.std.proofs.Common.{sym, ◌∙◌}
use Rattle.hay_run.proofs.Drilling.{none_other, number_behind, zero_other}
use Rattle.hay_run.proofs.drill.behind_number.Goals as goal

pub returns-then-at-eq0-clause-found : goal.returns-then-at-eq0-clause-found
returns-then-at-eq0-clause-found c = λ n text is.
    zero_other c.args.line.now n text c.in-Some.at is (sym c.find_other.ensures ∙ c.in-Some.is) c.if-at-eq0.true

pub returns-else-at-eq0-clause-number : goal.returns-else-at-eq0-clause-number
returns-else-at-eq0-clause-number c = λ n text is. number_behind c.args.line.now n text c.in-Some.at is (sym c.find_other.ensures ∙ c.in-Some.is)

pub returns-in-None-clause-found : goal.returns-in-None-clause-found
returns-in-None-clause-found c = λ n text is. none_other c.args.line.now n text is (sym c.find_other.ensures ∙ c.in-None.is)
