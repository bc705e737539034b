use Rattle.std.proofs.Common.{◌<◌, List, Bool, false, get_or, sym, ap, subst, ◌∙◌}
use Rattle.std.proofs.lemmas.List.{get_or-take}
use Rattle.hay_directory.specs.State.{State, Stands}
use Rattle.hay_directory.proofs.directory.Directory.drained.Goals as goal

pub returns-clause-known : goal.returns-clause-known
unfolding Stands
returns-clause-known g c = rw (← c.self.view_is) (λ known drained s.
    let was = c.self.inside in
    let below : c.args.machine < was.settings.machines = subst (λ (d : State _). c.args.machine < d.settings.machines) (sym c.self.view_is) c.requires in
    sym (get_or-take was.settings.machines was.drained c.args.machine false below) ∙ ap (λ (l : List Bool). get_or l c.args.machine false) (sym s.drained_is))
