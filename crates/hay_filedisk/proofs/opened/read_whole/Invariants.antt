use Rattle.std.proofs.Common.{◌≤◌, length}
use Rattle.hay_filedisk.proofs.opened.read_whole.Given as goal

abbrev pub invariant-fill : goal.invariant-fill
invariant-fill l = l.done ≤ length l.out
