use Rattle.std.proofs.Common.{◌≡◌}
use Rattle.std.specs.Prelude.{replicate}
use Rattle.hay_legal.specs.Known as known
use Rattle.hay_audit.proofs.first.fresh_replicas.Given as goal

abbrev pub invariant-loop-i : goal.invariant-loop-i
invariant-loop-i l = l.replicas ≡ replicate l._i known.empty_replica
