use Rattle.hay_directory.proofs.homes.Homes.reserve.Goals as goal

pub returns-clause-kept : goal.returns-clause-kept
returns-clause-kept c = rw (← c.self.view_is) (record { at = λ pair. c.reserve.ensures.entries.2 (pair.key, pair.alt) })
