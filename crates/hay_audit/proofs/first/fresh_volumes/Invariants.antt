use Rattle.std.proofs.Common.{◌≡◌}
use Rattle.std.specs.Prelude.{replicate}
use Rattle.hay_legal.specs.Known as known
use Rattle.hay_audit.proofs.first.fresh_volumes.Given as goal

abbrev pub invariant-loop-i : goal.invariant-loop-i
invariant-loop-i l = l.volumes ≡ replicate l._i (known.fresh_volume l.settings)
