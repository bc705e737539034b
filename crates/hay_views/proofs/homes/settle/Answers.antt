use Rattle.hay_views.proofs.homes.settle.Goals as goal

pub returns-clause-ok : goal.returns-clause-ok
returns-clause-ok c = record { at = λ other. c.in_ok-insert.ensures.updates.0 (other.key, other.alt) }
