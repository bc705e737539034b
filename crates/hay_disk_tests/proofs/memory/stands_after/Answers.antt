use Rattle.std.proofs.Common.{refl, replicate}
use Rattle.hay_disk_tests.proofs.memory.stands_after.Goals as goal

-- the body is eight sevens and the end mark
pub gate_append-appended-requires-clause-mark : goal.gate_append-appended-requires-clause-mark
gate_append-appended-requires-clause-mark c = (replicate 8 7, refl)
