use Rattle.hay_reader.proofs.trial.try_place.Goals as goal

pub returns-in-Live-clause-gives : goal.returns-in-Live-clause-gives
returns-in-Live-clause-gives g c = rw c.in-Live.is c.try_needle.ensures.gives
