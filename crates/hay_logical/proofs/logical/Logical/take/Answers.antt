use Rattle.std.proofs.Common.{[], ◌∷◌, refl, sym, ap, subst, ◌∙◌, arith}
use Rattle.hay_logical.specs.Fits.{At}
use Rattle.hay_logical.proofs.Lists.{at_first, at_same}
use Rattle.hay_logical.proofs.Reaching.{shorter}
use Rattle.hay_logical.proofs.Methods.{same_by, shaped_shorter}
use Rattle.hay_logical.proofs.logical.Logical.take.Goals as goal

pub invariant_of-self-2 : goal.invariant_of-self-2
invariant_of-self-2 g c =
    let is = c.in_ok-replica.ensures.items in
    let same = c.pop.ensures.capacity in
    let room = c.self.invariant.1 in (
      shaped_shorter c.self.inside.settings c.self.inside.number c.self.inside.replicas.items c.pop.new.self.items c.in_ok-replica.replica c.self.inside.rows c.self.inside.front
          c.self.inside.frozen c.self.inside.unsure is c.self.invariant.0,
      omega (arith, same, room),
      shorter g.D.Disk.Tells g.D.Disk.files c.self.inside.replicas.items c.pop.new.self.items c.in_ok-replica.replica c.self.inside.rows is c.self.invariant.2,
    )

pub returns-clause-disk : goal.returns-clause-disk
returns-clause-disk g c = (c.in_ok-replica.replica, ap (λ v. v.replicas) (sym c.self.view_is) ∙ c.in_ok-replica.ensures.items, c.into_disk.ensures)

pub returns-clause-same : goal.returns-clause-same
returns-clause-same g c =
    let is = c.in_ok-replica.ensures.items in
    same_by _ _ _ c.pop.new.self.items c.self.view_is refl refl refl
    (λ j r r' e f. ap (λ x. x.sup) (at_same c.self.inside.replicas.items j r' r (subst (λ xs. At xs j r') (sym is) (at_first c.pop.new.self.items (c.in_ok-replica.replica ∷ []) j r' f)) e))

pub returns-in_err-replica-clause-same : goal.returns-in_err-replica-clause-same
returns-in_err-replica-clause-same g c =
    let is = c.in_err-replica.ensures.items in
    same_by _ _ _ c.pop.new.self.items c.self.view_is refl refl refl
    (λ j r r' e f. ap (λ x. x.sup) (at_same c.self.inside.replicas.items j r' r (subst (λ xs. At xs j r') (sym is) (at_first c.pop.new.self.items [] j r' f)) e))
