use Rattle.hay_core.proofs.RunLaws.{keeps_good, shows_fronts, opens_tables, rises_by_opening, log_grows, keeps_entries}
use Rattle.hay_core.proofs.RefusalLaws.{refusals_keep_good}
use Rattle.hay_core.proofs.laws.run_events.Goals as goal

pub returns-clause-good : goal.returns-clause-good
returns-clause-good c g = keeps_good c.args.core.now c.args.events.now g

pub returns-clause-shown : goal.returns-clause-shown
returns-clause-shown c g = shows_fronts c.args.core.now c.args.events.now g

pub returns-clause-opened : goal.returns-clause-opened
returns-clause-opened c g = opens_tables c.args.core.now c.args.events.now g

pub returns-clause-rises : goal.returns-clause-rises
returns-clause-rises c g = rises_by_opening c.args.core.now c.args.events.now g

pub returns-clause-grows : goal.returns-clause-grows
returns-clause-grows c g = log_grows c.args.core.now c.args.events.now g

pub returns-clause-kept : goal.returns-clause-kept
returns-clause-kept c g = keeps_entries c.args.core.now c.args.events.now g

pub returns-clause-refused : goal.returns-clause-refused
returns-clause-refused c g = refusals_keep_good c.args.core.now g
