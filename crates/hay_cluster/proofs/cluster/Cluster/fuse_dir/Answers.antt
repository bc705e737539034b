use Rattle.std.proofs.Common.{refl}
use Rattle.hay_cluster.proofs.cluster.Cluster.fuse_dir.Goals as goal

pub returns-clause-suits : goal.returns-clause-suits
returns-clause-suits g c = λ line. refl
