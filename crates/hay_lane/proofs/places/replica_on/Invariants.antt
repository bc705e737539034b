use Rattle.std.proofs.Common.{◌≡◌, ℕ, ◌<◌, false}
use Rattle.std.specs.Prelude.{◌==◌}
use Rattle.hay_legal.specs.Known.{machine_of}
use Rattle.hay_lane.proofs.places.replica_on.Given as goal

abbrev pub invariant-loop-replica : goal.invariant-loop-replica
invariant-loop-replica l = (i : ℕ) → i < l.replica → (machine_of l.settings l.volume i == l.machine) ≡ false
