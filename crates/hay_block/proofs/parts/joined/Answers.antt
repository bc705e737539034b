use Rattle.std.proofs.Common.{arith}
use Rattle.std.proofs.lemmas.Grind.{common_steps}
use Rattle.hay_block.proofs.parts.joined.Goals as goal

pub loop-directory-preserved : goal.loop-directory-preserved
loop-directory-preserved g c = record {
  volumes = grind (arith, common_steps);
  directory = grind (arith, common_steps);
  arms = grind (arith, common_steps);
  same_rooms = grind (arith, common_steps);
  same_arms = grind (arith, common_steps);
  room = grind (arith, common_steps);
}
