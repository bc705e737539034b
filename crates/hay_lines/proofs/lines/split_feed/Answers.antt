use Rattle.hay_lines.proofs.Taking.{none_found, none_before}
use Rattle.hay_lines.proofs.lines.split_feed.Goals as goal

pub returns-in-Some-clause-free : goal.returns-in-Some-clause-free
returns-in-Some-clause-free c = none_before c.args.held.now c.in-Some.at c.in-Some.ensures

pub returns-in-None-clause-free : goal.returns-in-None-clause-free
returns-in-None-clause-free c = none_found c.args.held.now c.in-None.ensures
