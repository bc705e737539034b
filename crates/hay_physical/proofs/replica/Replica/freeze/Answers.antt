use Rattle.std.proofs.Common.{sym, subst}
use Rattle.hay_physical.specs.OpenCopies.{Copy, is_stuck}
use Rattle.hay_physical.specs.Replicas.{MayFind}
use Rattle.hay_physical.proofs.Laws.{stands_hold}
use Rattle.std.proofs.Common.{ap, refl}
use Rattle.hay_physical.specs.declared.state.OpenFiles.{OpenFiles}
use Rattle.hay_physical.specs.Replicas.{Anywhere}
use Rattle.hay_physical.proofs.Seeing.{sight_same}
use Rattle.hay_physical.proofs.replica.Replica.freeze.Goals as goal

pub returns-clause-held : goal.returns-clause-held
returns-clause-held g c = λ tells s stands.
    subst (λ (x : Copy _). MayFind x.sup (g.D.Disk.files x.disk) (is_stuck c.args.self.now) s s) (sym c.self.view_is) (stands_hold g.D.Disk.files c.args.self.now s stands)

pub returns-clause-sees : goal.returns-clause-sees
returns-clause-sees g c = λ tells.
    let was = c.self.inside in
    sight_same g.D.Disk.files Anywhere c.args.self.now was.sup was.disk was.disk was.phase c.in-Open.files c.freeze.new.self c.self.view_is c.in-Open.is
    (ap (λ (o : OpenFiles). o.volume) c.freeze.ensures) refl
