use Rattle.std.proofs.Common.{ℕ, ◌+◌, Option, cond, length, ap, ◌∙◌}
use Rattle.std.specs.Prelude.{is_some}
use Rattle.hay_directory.proofs.homes.Homes.insert.Goals as goal

pub returns-clause-ok : goal.returns-clause-ok
returns-clause-ok c = rw (← c.self.view_is) (record { at = λ other. c.in_ok-insert.ensures.updates.0 (other.key, other.alt) })

pub returns-clause-more : goal.returns-clause-more
returns-clause-more c = rw (← c.self.view_is) (λ none.
    let had = c.self.inside.volumes.entries in
    c.in_ok-insert.ensures.len ∙ ap (λ (old : Option ℕ). length had + cond (is_some old) 0 1) (c.in_ok-insert.ensures.old ∙ none))
