use Rattle.hay_map.proofs.Leaving.{LeftBelow}
use Rattle.hay_map.proofs.places.leave_each.Given as goal

abbrev pub invariant-loop-k : goal.invariant-loop-k
invariant-loop-k g l = LeftBelow l.replicas l.replica l.k l.initial.places l.places
