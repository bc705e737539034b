use Rattle.std.proofs.Common.{arith}
use Rattle.std.proofs.lemmas.Grind.{common_steps}
use Rattle.hay_thread_tests.proofs.session.workers_of.Goals as goal

pub loop-seat-preserved : goal.loop-seat-preserved
loop-seat-preserved c = record {
  seats = grind (arith, common_steps);
  views = grind (arith, common_steps);
  same = grind (arith, common_steps);
  room = grind (arith, common_steps);
  turn = grind (arith, common_steps);
}
