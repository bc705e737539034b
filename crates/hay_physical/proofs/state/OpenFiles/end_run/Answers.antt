use Rattle.std.proofs.Common.{refl}
use Rattle.hay_physical.proofs.RunLaws.{bounded_dropped}
use Rattle.hay_physical.proofs.state.OpenFiles.end_run.Goals as goal

pub returns-in-Standing-clause-bounded : goal.returns-in-Standing-clause-bounded
returns-in-Standing-clause-bounded g c = λ capacity bounded. bounded_dropped capacity c.args.self.now _ _ bounded refl refl
