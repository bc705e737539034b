use Rattle.std.proofs.Common.{ℕ, ◌<◌}
use Rattle.hay_batch.specs.declared.replica.LoadReplica.{LoadReplica}
use Rattle.hay_batch.specs.Replicas.{At, HasRoom}
use Rattle.hay_batch.proofs.replicas.first_full.Given as goal

abbrev pub invariant-loop-j : goal.invariant-loop-j
invariant-loop-j g l = (i : ℕ) (r : LoadReplica g.row.D.Denot) → i < l.j → At l.replicas i r → HasRoom l.need r
