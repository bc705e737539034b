use Rattle.std.proofs.Common.{arith}
use Rattle.std.proofs.lemmas.Grind.{common_steps}
use Rattle.hay_directory_lock.proofs.open.joined.Goals as goal

pub loop-turn-preserved : goal.loop-turn-preserved
loop-turn-preserved g c = record {
  turns = grind (arith, common_steps);
  views = grind (arith, common_steps);
  same = grind (arith, common_steps);
  room = grind (arith, common_steps);
}
