use Rattle.std.proofs.Common.{◌≡◌, List, ◌<◌, length, refl, sym, ap, subst, arith}
use Rattle.hay_map.specs.Rows.{ChangesRows}
use Rattle.hay_map.specs.declared.view.MapOp.TheVariants as op
use Rattle.hay_logical.specs.Unshown.{IsWritten, IsWrittenFor}
use Rattle.hay_logical.specs.Volumes.{Volume}
use Rattle.hay_logical.proofs.Lists.{at_same}
use Rattle.hay_logical.proofs.Methods.{shaped_on}
use Rattle.hay_logical.proofs.Showing.{put_shown}
use Rattle.hay_logical.specs.Seen.{AreEnds, ReplicaSeen}
use Rattle.hay_logical.specs.Sights.{StoresSights, sights_of}
use Rattle.hay_logical.proofs.SightChanges.{stores_sights}
use Rattle.hay_logical.proofs.logical.Logical.show.Goals as goal

pub give_row-requires : goal.give_row-requires
give_row-requires g c =
    let fits = subst (λ v. IsWrittenFor g.D.Disk.Tells g.D.Disk.files g.D.Piece.Piece.Tells c.args.written v) (sym c.self.view_is) c.requires in
    record { room = fits.room; long = fits.long }

pub invariant_of-self : goal.invariant_of-self
invariant_of-self g c =
    let fits = subst (λ v. IsWrittenFor g.D.Disk.Tells g.D.Disk.files g.D.Piece.Piece.Tells c.args.written v) (sym c.self.view_is) c.requires in (
      shaped_on c.self.inside.settings c.self.inside.number c.self.inside.replicas.items c.self.inside.replicas.items c.self.inside.rows c.give_row.new.rows c.self.inside.front
          c.args.written.position c.self.inside.frozen c.self.inside.frozen c.self.inside.unsure c.self.inside.unsure
          c.self.invariant.0 (c.self.invariant.0).frozen_by (c.self.invariant.0).settled refl (λ j r r' e f. ap (λ x. x.sup) (at_same c.self.inside.replicas.items j r' r f e))
          c.give_row.ensures.replicas (λ none j r r' e f. (c.self.invariant.0).thawed none j r' f),
      c.self.invariant.1,
      fits.reach c.give_row.new.rows c.give_row.ensures,
    )

pub returns-clause-put : goal.returns-clause-put
returns-clause-put g c = λ tells k tag pair cookie bytes is.
    put_shown c.self.inside.settings c.self.inside.number g.D.Disk.Tells g.D.Disk.files g.D.Piece.Piece.Tells g.D.Disk.fault_count g.D.Disk.fuse_count c.self.inside.replicas.items
    c.self.inside.rows c.give_row.new.rows c.self.inside.front c.args.written.position
    c.self.inside.frozen c.self.inside.unsure k tag pair cookie bytes c.args.written (subst
    (λ v. IsWritten g.D.Disk.files g.D.Piece.Piece.Tells k pair cookie bytes c.args.written v) (sym c.self.view_is) is) refl c.give_row.ensures.rows

pub returns-clause-rows : goal.returns-clause-rows
returns-clause-rows g c = subst (λ v. ChangesRows (op.Put c.args.written.pair c.args.written.row) v.rows c.give_row.new.rows) c.self.view_is c.give_row.ensures

pub returns-clause-still : goal.returns-clause-still
returns-clause-still g c = ap (λ (v : Volume g.row.D.Denot g.row.D-Piece.Denot). record v { rows = c.give_row.new.rows; front = c.args.written.position }) c.self.view_is

pub returns-clause-sights : goal.returns-clause-sights
returns-clause-sights g c =
    let fits = subst (λ v. IsWrittenFor g.D.Disk.Tells g.D.Disk.files g.D.Piece.Piece.Tells c.args.written v) (sym c.self.view_is) c.requires in
    let long = fits.long in
    let width = (c.self.invariant.0).width in
    subst (λ v. (replicas : List ReplicaSeen) → length replicas ≡ v.settings.replicas → AreEnds c.args.written.ends replicas
    → StoresSights c.args.written.pair replicas (sights_of v.rows) (sights_of c.give_row.new.rows)) c.self.view_is
    (stores_sights c.self.inside.rows c.give_row.new.rows c.args.written.pair c.args.written.row c.self.inside.settings.replicas c.args.written.ends c.give_row.ensures.rows
    (λ j h. fits.live j (let less : j < length c.args.written.row = omega (arith, h, long, width) in less)))
