use Rattle.std.proofs.Common.{sym, subst}
use Rattle.hay_cluster.specs.State.{Stands}
use Rattle.hay_cluster.specs.Store.{Open}
use Rattle.hay_cluster.proofs.Moves.{directory_stood}
use Rattle.hay_cluster.proofs.cluster.Cluster.home.Goals as goal

pub returns-clause-known : goal.returns-clause-known
returns-clause-known g c = λ tells k stands.
    let store : Open g.row.D.Denot g.row.D-Piece.Denot g.row.A.Denot = record {
      settings = c.self.inside.settings;
      directory = c.self.inside.directory;
      volumes = c.self.inside.volumes.items;
      arms = c.self.inside.seats.items;
    } in
    let here =
    subst (λ (st : Open g.row.D.Denot g.row.D-Piece.Denot g.row.A.Denot). Stands g.D.Disk.files g.D.Piece.Piece.Tells g.D.Disk.fault_count g.D.Disk.fuse_count
    g.A.Arm.fault_count st k) (sym c.self.view_is) stands in
    c.home.ensures.known k.directory k.drained (directory_stood g.D.Disk.files g.D.Piece.Piece.Tells g.D.Disk.fault_count g.D.Disk.fuse_count g.A.Arm.fault_count store k here)
