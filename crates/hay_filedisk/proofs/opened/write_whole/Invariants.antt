use Rattle.std.proofs.Common.{◌≤◌, length}
use Rattle.hay_filedisk.proofs.opened.write_whole.Given as goal

abbrev pub invariant-send : goal.invariant-send
invariant-send l = l.done ≤ length l.bytes
