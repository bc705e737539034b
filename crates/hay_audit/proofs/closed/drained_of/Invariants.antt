use Rattle.std.proofs.Common.{◌≡◌, ◌-◌, find}
use Rattle.std.specs.Prelude.{map}
use Rattle.std.specs.List.{range_with_len}
use Rattle.hay_legal.specs.Known as known
use Rattle.hay_audit.proofs.closed.drained_of.Given as goal

abbrev pub invariant-loop-j : goal.invariant-loop-j
invariant-loop-j l =
    known.drained_of l.settings l.state l.volume
    ≡ find (known.is_drained l.state) (map (known.machine_of l.settings l.volume) (range_with_len l.j (l.settings.replicas - l.j)))
