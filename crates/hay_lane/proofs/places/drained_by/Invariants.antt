use Rattle.std.proofs.Common.{◌≡◌, ℕ, ◌<◌, false}
use Rattle.std.specs.Prelude.{slice_index_or}
use Rattle.hay_legal.specs.Known.{machine_of}
use Rattle.hay_lane.proofs.places.drained_by.Given as goal

abbrev pub invariant-loop-replica : goal.invariant-loop-replica
invariant-loop-replica l = (i : ℕ) → i < l.replica → slice_index_or l.drained (machine_of l.settings l.volume i) false ≡ false
