use Rattle.std.proofs.Common.{ap, ◌∙◌}
use Rattle.hay_queue.proofs.Rules.{merges, learns}
use Rattle.hay_queue.proofs.desk.Desk.account.Goals as goal

pub absorb-requires-clause-rule : goal.absorb-requires-clause-rule
absorb-requires-clause-rule g c = merges _ _ _ _ _ c.worker.invariant.0.takes c.client.invariant.sends

pub learn_as-requires-clause-rule : goal.learn_as-requires-clause-rule
learn_as-requires-clause-rule g c = let knows = c.absorb.ensures.rule in learns _ _ _ (ap (λ v. v.takes) knows ∙ c.worker.invariant.0.takes) (ap (λ v. v.sends) knows)
