use Rattle.std.proofs.Common.{refl, sym, ap, subst}
use Rattle.hay_map.specs.Places.{place_in}
use Rattle.hay_map.specs.Rows.{ChangesRows, row_at}
use Rattle.hay_map.specs.declared.view.MapOp.TheVariants as op
use Rattle.hay_physical.specs.OpenCopies.{Copy, IsOpenCopy, IsUp}
use Rattle.hay_physical.specs.Replicas as physical
use Rattle.hay_logical.specs.ReplicaCalls.{KeepsReach}
use Rattle.hay_logical.specs.Unshown.{IsErased}
use Rattle.hay_logical.specs.Volumes.{Volume}
use Rattle.hay_logical.proofs.Calls.{reach_still}
use Rattle.hay_logical.proofs.Lists.{at_same}
use Rattle.hay_logical.proofs.Methods.{shaped_on}
use Rattle.hay_logical.proofs.Reaching.{delete_row}
use Rattle.hay_logical.proofs.Showing.{delete_shown}
use Rattle.hay_logical.specs.Sights.{ErasesSights, sights_of}
use Rattle.hay_logical.proofs.SightChanges.{erases_sights}
use Rattle.hay_logical.proofs.logical.Logical.hide.Goals as goal

pub invariant_of-self : goal.invariant_of-self
invariant_of-self g c = (
  shaped_on c.self.inside.settings c.self.inside.number c.self.inside.replicas.items c.self.inside.replicas.items c.self.inside.rows c.del.new.self c.self.inside.front
      c.args.erased.position c.self.inside.frozen c.self.inside.frozen c.self.inside.unsure c.self.inside.unsure
      c.self.invariant.0 (c.self.invariant.0).frozen_by (c.self.invariant.0).settled refl (λ j r r' e f. ap (λ x. x.sup) (at_same c.self.inside.replicas.items j r' r f e))
      c.del.ensures.replicas (λ none j r r' e f. (c.self.invariant.0).thawed none j r' f),
  c.self.invariant.1,
  delete_row g.D.Disk.Tells g.D.Disk.files c.self.inside.replicas.items c.self.inside.replicas.items c.self.inside.rows c.del.new.self c.self.invariant.2 refl
      (λ j r r' e f. let same = at_same c.self.inside.replicas.items j r' r f e in (
        λ u. subst (λ (x : Copy g.row.D.Denot). IsUp x) same u,
        λ u. subst (λ (x : Copy g.row.D.Denot). IsOpenCopy x) same u,
      ))
      c.args.erased.pair c.del.ensures.rows
      (λ j r r' e f tells. subst (λ x. KeepsReach g.D.Disk.files (λ at size. physical.IsApartPlace at size (place_in (row_at c.self.inside.rows c.args.erased.pair) j)) r x)
      (at_same c.self.inside.replicas.items j r r' e f) (reach_still g.D.Disk.files r)),
)

pub returns-clause-deleted : goal.returns-clause-deleted
returns-clause-deleted g c = λ tells k tag pair before is.
    delete_shown c.self.inside.settings c.self.inside.number g.D.Disk.Tells g.D.Disk.files g.D.Piece.Piece.Tells g.D.Disk.fault_count g.D.Disk.fuse_count before
    c.self.inside.replicas.items c.self.inside.rows c.del.new.self c.self.inside.front c.args.erased.position
    c.self.inside.frozen c.self.inside.unsure k tag pair c.args.erased (subst (λ v. IsErased g.D.Disk.files g.D.Disk.fault_count g.D.Piece.Piece.Tells k pair c.args.erased before
    v) (sym c.self.view_is) is) refl c.del.ensures.rows

pub returns-clause-rows : goal.returns-clause-rows
returns-clause-rows g c = subst (λ v. ChangesRows (op.Del c.args.erased.pair) v.rows c.del.new.self) c.self.view_is c.del.ensures

pub returns-clause-still : goal.returns-clause-still
returns-clause-still g c = ap (λ (v : Volume g.row.D.Denot g.row.D-Piece.Denot). record v { rows = c.del.new.self; front = c.args.erased.position }) c.self.view_is

pub returns-clause-sights : goal.returns-clause-sights
returns-clause-sights g c =
    subst (λ v. ErasesSights c.args.erased.pair (sights_of v.rows) (sights_of c.del.new.self)) c.self.view_is (erases_sights c.self.inside.rows c.del.new.self c.args.erased.pair c.del.ensures.rows)
