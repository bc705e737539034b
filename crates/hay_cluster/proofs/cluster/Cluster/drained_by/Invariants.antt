use Rattle.std.proofs.Common.{◌≡◌, ℕ, ◌<◌, false}
use Rattle.std.specs.Prelude.{slice_index_or}
use Rattle.hay_legal.specs.Known.{machine_of}
use Rattle.hay_cluster.proofs.cluster.Cluster.drained_by.Given as goal

abbrev pub invariant-loop-replica : goal.invariant-loop-replica
invariant-loop-replica g l = (i : ℕ) → i < l.replica → slice_index_or l.self-inside.directory.drained (machine_of l.self-inside.settings l.volume i) false ≡ false
