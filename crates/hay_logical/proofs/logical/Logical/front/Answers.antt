use Rattle.std.proofs.Common.{ap, subst, ◌∙◌}
use Rattle.hay_logical.specs.Stands.{Stands}
use Rattle.hay_logical.specs.Volumes.{HasSupers, Volume}
use Rattle.hay_logical.proofs.logical.Logical.front.Goals as goal

pub returns-clause-known : goal.returns-clause-known
unfolding Stands
returns-clause-known g c = λ tells k stands. ap (λ v. v.front) c.self.view_is ∙ stands.front

pub returns-clause-sups : goal.returns-clause-sups
returns-clause-sups g c = subst (λ (v : Volume g.row.D.Denot g.row.D-Piece.Denot). HasSupers v) c.self.view_is (c.self.invariant.0).sups
