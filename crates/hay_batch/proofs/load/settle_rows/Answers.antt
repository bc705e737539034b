use Rattle.hay_batch.proofs.load.settle_rows.Goals as goal

pub returns-in-Ok-clause-settled : goal.returns-in-Ok-clause-settled
returns-in-Ok-clause-settled g c = λ tells. c.in-Ok.ensures.settled tells
