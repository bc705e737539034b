use Rattle.std.proofs.Common.{◌≡◌, take}
use Rattle.std.specs.List.{fold}
use Rattle.hay_lines.specs.Lines.{start_behind}
use Rattle.hay_lines.proofs.start.LineStart.behind.Given as goal

abbrev pub invariant-loop-byte : goal.invariant-loop-byte
invariant-loop-byte l = l.start ≡ fold start_behind l.fn.self (take l.byte-index l.span)
