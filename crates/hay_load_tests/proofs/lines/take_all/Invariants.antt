use Rattle.hay_memdisk.specs.MemDisk.{mem_files}
use Rattle.hay_load.specs.Loads.{IsLoading}
use Rattle.hay_load_tests.proofs.lines.take_all.Given as goal

abbrev pub invariant-loop-place : goal.invariant-loop-place
invariant-loop-place l = IsLoading (Unit {0}) mem_files l.load
