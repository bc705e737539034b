use Rattle.hay_cluster_block.proofs.Homes.{kept_more}
use Rattle.hay_cluster_block.proofs.rows.LineHomes.add.Goals as goal

pub returns-then-is_some-clause-within : goal.returns-then-is_some-clause-within
returns-then-is_some-clause-within g c = λ within. within

pub returns-in-Some-clause-within : goal.returns-in-Some-clause-within
returns-in-Some-clause-within g c = λ within.
    kept_more c.insert.result c.args.directory.now.settings.volumes c.args.job.now.line c.in-Some.volume c.args.self.now c.insert.new.self c.in-Some.ensures.below within c.insert.ensures

pub returns-in-None-clause-within : goal.returns-in-None-clause-within
returns-in-None-clause-within g c = λ within. within
