use Rattle.std.proofs.Common.{◌<◌, ℕ, Option, sym, subst, ◌∙◌}
use Rattle.std.specs.Prelude.{IfSome}
use Rattle.hay_directory.specs.State.{State, Stands}
use Rattle.hay_directory.proofs.directory.Directory.home.Goals as goal

pub returns-clause-known : goal.returns-clause-known
unfolding Stands
returns-clause-known g c = rw (← c.self.view_is) (λ known drained s. c.get.ensures ∙ s.homes c.args.pair)

pub returns-clause-below : goal.returns-clause-below
returns-clause-below g c =
    let below = subst (λ (home : Option ℕ). IfSome home (λ v. v < c.self.inside.settings.volumes)) (sym c.get.ensures) (c.self.invariant.within.at c.args.pair) in
    subst (λ (d : State _). IfSome c.get.result (λ v. v < d.settings.volumes)) c.self.view_is below
