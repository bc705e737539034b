use Rattle.std.proofs.Common.{◌≡◌, ◌+◌, ◌-◌, ◌%◌, ◌++◌}
use Rattle.std.specs.Prelude.{map}
use Rattle.std.specs.List.{range_with_len}
use Rattle.hay_legal.specs.Plain as plain
use Rattle.hay_audit.proofs.unreadable.order_from.Given as goal

abbrev pub invariant-loop-i : goal.invariant-loop-i
invariant-loop-i l =
    l.order ++ map (λ i. (l.start + i) % l.settings.replicas) (range_with_len l.i (l.settings.replicas - l.i)) ≡ plain.order_from l.settings l.start
