use Rattle.std.proofs.Common.{◌≡◌, ◌++◌, map}
use Rattle.hay_legal.specs.Plain as plain
use Rattle.hay_audit.proofs.freezes.without_runs.Given as goal

abbrev pub invariant-loop-replica : goal.invariant-loop-replica
invariant-loop-replica l = l.after ++ map plain.without_run l.replica-iterator.rest.items ≡ map plain.without_run l.fn.replicas
