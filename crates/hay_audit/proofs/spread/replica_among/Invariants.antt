use Rattle.std.proofs.Common.{◌≡◌, ◌-◌, find}
use Rattle.std.specs.Prelude.{◌==◌}
use Rattle.std.specs.List.{range_with_len}
use Rattle.hay_legal.specs.Known as known
use Rattle.hay_audit.proofs.spread.replica_among.Given as goal

abbrev pub invariant-loop-j : goal.invariant-loop-j
invariant-loop-j l =
    find (λ i. known.machine_of l.settings l.volume i == l.machine) (known.replicas_of l.settings)
    ≡ find (λ i. known.machine_of l.settings l.volume i == l.machine) (range_with_len l.j (l.settings.replicas - l.j))
