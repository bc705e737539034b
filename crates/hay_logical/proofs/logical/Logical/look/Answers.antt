use Rattle.std.proofs.Common.{sym, ap, subst, ◌∙◌}
use Rattle.hay_needle.specs.Tables.{outcome_at}
use Rattle.hay_legal.specs.Known.{now, replica_at}
use Rattle.hay_map.specs.Places.{place_in}
use Rattle.hay_physical.specs.Replicas.{HasWholeNeedle}
use Rattle.hay_logical.specs.Fits.{At, PlaceStands}
use Rattle.hay_logical.specs.Stands.{Stands, StandsFor}
use Rattle.hay_logical.proofs.Methods.{shown}
use Rattle.hay_logical.proofs.logical.Logical.look.Goals as goal

pub returns-clause-known : goal.returns-clause-known
unfolding Stands
returns-clause-known g c = λ tells k stands. (
  ap (λ v. v.front) c.self.view_is ∙ stands.front,
  λ j r e.
      subst (λ row. PlaceStands g.D.Disk.files g.D.Piece.Piece.Tells r c.args.pair (place_in row j) (outcome_at (now k (replica_at k j)) c.args.pair)) (sym c.row.ensures.row)
      (shown c.self.inside.settings c.self.inside.number g.D.Disk.Tells g.D.Disk.files g.D.Piece.Piece.Tells g.D.Disk.fault_count g.D.Disk.fuse_count
      c.self.inside.replicas.items c.self.inside.rows c.self.inside.front c.self.inside.frozen c.self.inside.unsure k
      (subst (λ v. StandsFor g.D.Disk.files g.D.Piece.Piece.Tells v k) (sym c.self.view_is) stands) c.args.pair j r (subst (λ v. At v.replicas j r) (sym c.self.view_is) e)),
)

pub returns-clause-whole : goal.returns-clause-whole
returns-clause-whole g c = λ tells j r e is.
    let reach = c.self.invariant.2 tells j r (subst (λ v. At v.replicas j r) (sym c.self.view_is) e) in
    subst (λ row. HasWholeNeedle g.D.Piece.Piece.Tells (place_in row j)) (sym c.row.ensures.row) ((reach.sees is).whole c.args.pair)
