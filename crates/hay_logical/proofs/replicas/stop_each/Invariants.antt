use Rattle.hay_logical.specs.Draws.{HasDrawnNothing}
use Rattle.hay_logical.specs.ReplicaCalls.{Stops}
use Rattle.hay_logical.proofs.Lists.{Went}
use Rattle.hay_logical.proofs.replicas.stop_each.Given as goal

abbrev pub invariant-loop-replica : goal.invariant-loop-replica
invariant-loop-replica g l =
    Went (λ i r r'. Stops g.D.Disk.Tells g.D.Disk.files g.D.Disk.fault_count g.D.Disk.fuse_count r r' × (g.D.Disk.Tells → HasDrawnNothing g.D.Disk.drawn r')) l.replica-index l.fn.replicas l.replicas
