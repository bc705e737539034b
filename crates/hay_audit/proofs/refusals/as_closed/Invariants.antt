use Rattle.std.proofs.Common.{◌≡◌, ◌++◌, drop}
use Rattle.std.specs.Prelude.{map}
use Rattle.hay_legal.specs.Plain as plain
use Rattle.hay_audit.proofs.refusals.as_closed.Given as goal

abbrev pub invariant-loop-by : goal.invariant-loop-by
invariant-loop-by l = l.refused ++ map plain.as_closed (drop l.by-index l.tries) ≡ map plain.as_closed l.tries
