use Rattle.std.proofs.Common.{◌≡◌, eqb-true, ap, sym, subst, ◌∙◌}
use Rattle.crossbeam_channel.specs.Claims.{view}
use Rattle.hay_queue.specs.Desks.{AllEnded}
use Rattle.hay_queue.proofs.Counts.{none_unended}
use Rattle.hay_queue.proofs.desk.Worker.has_all_ends.Goals as goal

pub returns : goal.returns
returns g c is = let none_left : c.self.inside.unended ≡ 0 = eqb-true c.self.inside.unended 0 is in
    subst AllEnded (ap (λ w. w.streams) c.self.view_is) (none_unended (view c.self.inside.pass).heard (sym c.self.invariant.1 ∙ none_left))
