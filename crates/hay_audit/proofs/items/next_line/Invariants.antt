use Rattle.std.proofs.Common.{◌≡◌, ◌+◌, drop, length}
use Rattle.hay_script.specs.Script.{lines_of}
use Rattle.hay_audit.specs.Lines.{onto_line}
use Rattle.hay_audit.proofs.items.next_line.Given as goal

abbrev pub invariant-loop-i : goal.invariant-loop-i
invariant-loop-i l =
    (lines_of (drop l.at l.script) ≡ onto_line l.line.items (lines_of (drop l.i l.script)))
    × (l.at + length l.line.items ≡ l.i)
