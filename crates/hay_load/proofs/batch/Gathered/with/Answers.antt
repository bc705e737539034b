use Rattle.hay_load.proofs.Batching.{gathered_more}
use Rattle.hay_load.proofs.batch.Gathered.with.Goals as goal

pub returns-clause-gathered : goal.returns-clause-gathered
returns-clause-gathered c = gathered_more c.args.self.photos.items c.push.new.self.items c.args.photo c.requires.gathered c.requires.size c.requires.joins c.in_ok-push.ensures.items
