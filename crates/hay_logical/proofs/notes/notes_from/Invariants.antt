use Rattle.std.proofs.Common.{◌≡◌, ◌++◌, drop}
use Rattle.hay_legal.specs.Restarts.{replica_notes}
use Rattle.hay_logical.proofs.notes.notes_from.Given as goal

abbrev pub invariant-loop-j : goal.invariant-loop-j
invariant-loop-j l = l.notes.items ++ replica_notes l.settings l.number l.line l.j (drop l.j l.kept) ≡ replica_notes l.settings l.number l.line 0 l.kept
