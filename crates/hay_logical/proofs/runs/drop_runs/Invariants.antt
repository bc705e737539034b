use Rattle.std.proofs.Common.{◌≡◌, None}
use Rattle.hay_physical.specs.OpenCopies.{goal_of}
use Rattle.hay_logical.specs.ReplicaCalls.{LosesRun}
use Rattle.hay_logical.proofs.Lists.{Went}
use Rattle.hay_logical.proofs.runs.drop_runs.Given as goal

abbrev pub invariant-loop-replica : goal.invariant-loop-replica
invariant-loop-replica g l = Went (λ i r r'. LosesRun g.D.Disk.Tells g.D.Disk.files r r' × (goal_of r' ≡ None)) l.replica-index l.fn.replicas l.replicas
