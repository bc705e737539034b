use Rattle.std.proofs.Common.{refl}
use Rattle.hay_physical.proofs.RunLaws.{bounded_dropped}
use Rattle.hay_physical.proofs.state.OpenFiles.broken_off.Goals as goal

pub returns-clause-bounded : goal.returns-clause-bounded
returns-clause-bounded g c = λ capacity bounded. bounded_dropped capacity c.args.self.now _ _ bounded refl refl
