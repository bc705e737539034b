use Rattle.std.proofs.Common.{◌≡◌, ◌++◌}
use Rattle.hay_legal.specs.Plain as plain
use Rattle.hay_audit.proofs.del.ended_where.Given as goal

abbrev pub invariant-loop-replica : goal.invariant-loop-replica
invariant-loop-replica l = l.after ++ plain.ended_where l.left l.replica-iterator.rest.items ≡ plain.ended_where l.ended l.fn.replicas
