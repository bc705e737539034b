use Rattle.std.proofs.Common.{take}
use Rattle.std.specs.List.{AllByRecursion}
use Rattle.hay_reply.specs.Fits.{IsLarge}
use Rattle.hay_cluster_block.proofs.notes.read_lines.Given as goal

abbrev pub invariant-loop-line : goal.invariant-loop-line
invariant-loop-line l = AllByRecursion IsLarge (take l.line-index l.lines)
