use Rattle.std.proofs.Common.{◌∙◌}
use Rattle.hay_physical.proofs.Views.{files_stand}
use Rattle.hay_physical.proofs.replica.Replica.generation.Goals as goal

pub returns-clause-known : goal.returns-clause-known
returns-clause-known g c = λ tells s stands.
    let was = c.self.inside in
    c.current.ensures ∙ (files_stand g.D.Disk.files c.args.self.now was.sup was.disk was.phase c.in-Open.files s c.self.view_is c.in-Open.is stands).generation
