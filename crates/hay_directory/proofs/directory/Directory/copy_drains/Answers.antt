use Rattle.std.proofs.Common.{sym, ◌∙◌}
use Rattle.hay_directory.specs.State.{Stands}
use Rattle.hay_directory.proofs.directory.Directory.copy_drains.Goals as goal

pub returns-clause-known : goal.returns-clause-known
unfolding Stands
returns-clause-known g c = rw (← c.self.view_is) (λ known drained s. c.in_ok-from_slice.ensures.items ∙ sym s.drained_is)
