use Rattle.std.proofs.Common.{◌≡◌, sym, ◌∙◌}
use Rattle.hay_run.proofs.Drilling.{line_cut, no_line}
use Rattle.hay_run.proofs.drill.first_line.Goals as goal

pub returns-in-None-clause-none : goal.returns-in-None-clause-none
returns-in-None-clause-none c = no_line c.args.text.now (sym c.find_feed.ensures ∙ c.in-None.is)

pub returns-in-Some-clause-some : goal.returns-in-Some-clause-some
returns-in-Some-clause-some c = line_cut c.args.text.now c.in-Some.at (sym c.find_feed.ensures ∙ c.in-Some.is)
