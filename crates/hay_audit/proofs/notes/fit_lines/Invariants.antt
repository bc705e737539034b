use Rattle.std.proofs.Common.{drop}
use Rattle.std.specs.List.{AllByRecursion as Each}
use Rattle.hay_reply.specs.Fits.{IsLarge}
use Rattle.hay_audit.proofs.notes.fit_lines.Given as goal

abbrev pub invariant-loop-line : goal.invariant-loop-line
invariant-loop-line l = Each IsLarge (drop l.line-index l.lines) → Each IsLarge l.lines
