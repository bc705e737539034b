use Rattle.hay_queue.proofs.Rules.{taken_begins, ends_last}
use Rattle.hay_queue.proofs.laws.taken_begins_sent.Goals as goal

pub returns-clause-begins : goal.returns-clause-begins
returns-clause-begins g c = taken_begins g.J.Job.named

pub returns-clause-last : goal.returns-clause-last
returns-clause-last g c = ends_last g.J.Job.named
