use Rattle.std.proofs.Common.{◌≡◌, drop}
use Rattle.hay_audit.proofs.Lowest.{lacking_from}
use Rattle.hay_audit.proofs.looks.lacking.Given as goal

abbrev pub invariant-loop-j : goal.invariant-loop-j
invariant-loop-j l = lacking_from l.settings l.size 0 l.lows l.replicas ≡ lacking_from l.settings l.size l.j (drop l.j l.lows) (drop l.j l.replicas)
