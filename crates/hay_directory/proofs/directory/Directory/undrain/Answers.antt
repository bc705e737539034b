use Rattle.std.proofs.Common.{ap, false}
use Rattle.hay_directory.specs.Seen.{directory_seen}
use Rattle.hay_directory.specs.State.{State, Stands}
use Rattle.hay_directory.proofs.Standing.{stands_drained}
use Rattle.hay_directory.proofs.directory.Directory.undrain.Goals as goal

pub returns-clause-stands : goal.returns-clause-stands
unfolding Stands
returns-clause-stands g c = λ known drained s. stands_drained g.D.Disk.files c.args.self.now c.set_drained.new.self known drained c.args.machine false s c.set_drained.ensures

pub returns-clause-seen : goal.returns-clause-seen
returns-clause-seen g c = ap (λ (d : State _). directory_seen d) c.set_drained.ensures
