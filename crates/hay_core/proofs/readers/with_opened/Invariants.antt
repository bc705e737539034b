use Rattle.std.proofs.Common.{◌≡◌, ◌++◌, drop}
use Rattle.hay_core.proofs.OpenCode.{from_here}
use Rattle.hay_core.proofs.readers.with_opened.Given as goal

abbrev pub invariant-loop-i : goal.invariant-loop-i
invariant-loop-i l = l.next ++ from_here l.replica l.i (drop l.i l.list) ≡ from_here l.replica 0 l.list
