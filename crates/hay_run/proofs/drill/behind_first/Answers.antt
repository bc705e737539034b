use Rattle.std.proofs.Common.{subst, ◌∙◌}
use Rattle.hay_audit_steps.proofs.Feeds.{Fine, cut_once}
use Rattle.hay_run.proofs.Drilling.{not_fine}
use Rattle.hay_run.proofs.drill.behind_first.Goals as goal

pub returns-in-Some : goal.returns-in-Some
returns-in-Some c = λ line behind fine is.
    (cut_once c.in-Some.field-0-0.now line c.in-Some.behind.now behind c.in-Some.ensures.some.0 fine (c.in-Some.ensures.some.1 ∙ is)).1

pub returns-in-None : goal.returns-in-None
returns-in-None c = λ line behind fine is. absurd (not_fine line behind (subst Fine is c.in-None.ensures.none))
