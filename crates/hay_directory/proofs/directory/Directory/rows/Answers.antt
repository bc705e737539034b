use Rattle.hay_directory.specs.State.{Stands}
use Rattle.hay_directory.proofs.directory.Directory.rows.Goals as goal

pub returns-clause-known : goal.returns-clause-known
unfolding Stands
returns-clause-known g c = rw (← c.self.view_is) (λ known drained s. s.count)
