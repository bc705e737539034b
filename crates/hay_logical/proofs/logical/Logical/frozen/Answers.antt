use Rattle.std.proofs.Common.{ℕ, Option, Some, None, refl, ap, sym, subst, ◌∙◌}
use Rattle.std.specs.Prelude.{IfSome}
use Rattle.hay_needle.specs.declared.settings.Settings.{Settings}
use Rattle.hay_logical.specs.Volumes.{IsFrozenBy, IsMachineOf, Volume}
use Rattle.hay_logical.specs.Stands.{Stands}
use Rattle.hay_logical.proofs.logical.Logical.frozen.Goals as goal

pub returns-clause-known : goal.returns-clause-known
unfolding Stands
returns-clause-known g c = λ tells k stands. ap (λ v. v.frozen) c.self.view_is ∙ sym stands.frozen

each_frozen : (settings : Settings) (v : ℕ) (frozen : Option ℕ) → IsFrozenBy settings v frozen → IfSome frozen (IsMachineOf settings v)
each_frozen settings v None by = tt
each_frozen settings v (Some m) by = by m refl

pub returns-clause-on : goal.returns-clause-on
returns-clause-on g c =
    subst (λ (v : Volume g.row.D.Denot g.row.D-Piece.Denot). IfSome c.self.inside.frozen (IsMachineOf v.settings v.number)) c.self.view_is
    (each_frozen c.self.inside.settings c.self.inside.number c.self.inside.frozen (c.self.invariant.0).frozen_by)
