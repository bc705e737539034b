use Rattle.std.proofs.Common.{sym, subst}
use Rattle.hay_cluster.specs.State.{Stands}
use Rattle.hay_cluster.specs.Store.{Open}
use Rattle.hay_cluster.proofs.cluster.Cluster.rows.Goals as goal

pub returns-clause-known : goal.returns-clause-known
unfolding Stands
returns-clause-known g c = λ tells k s.
    let P : Open g.row.D.Denot g.row.D-Piece.Denot g.row.A.Denot → Type 0 = λ store. Stands g.D.Disk.files g.D.Piece.Piece.Tells g.D.Disk.fault_count g.D.Disk.fuse_count g.A.Arm.fault_count store k in
    let here = subst P (sym c.self.view_is) s in
    c.rows.ensures.known k.directory k.drained here.directory
