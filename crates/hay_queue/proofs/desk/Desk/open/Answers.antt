use Rattle.hay_queue.proofs.Rules.{begins}
use Rattle.hay_queue.proofs.desk.Desk.open.Goals as goal

pub bounded_with-requires-clause-rule : goal.bounded_with-requires-clause-rule
bounded_with-requires-clause-rule g c = begins _
