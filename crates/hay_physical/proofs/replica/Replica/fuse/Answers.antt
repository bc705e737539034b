use Rattle.hay_physical.proofs.Views.{moved_deletes, moved_stands}
use Rattle.hay_physical.proofs.RunViews.{moved_run}
use Rattle.hay_physical.specs.Replicas.{Anywhere}
use Rattle.hay_physical.proofs.Seeing.{sight_moved}
use Rattle.hay_physical.proofs.replica.Replica.fuse.Goals as goal

pub returns-clause-stands : goal.returns-clause-stands
returns-clause-stands g c = λ tells s stands.
    let was = c.self.inside in
    moved_stands g.D.Disk.files c.args.self.now was.sup was.disk c.fuse.new.self was.phase s c.self.view_is (c.fuse.ensures.same tells) stands

pub returns-clause-deletes : goal.returns-clause-deletes
returns-clause-deletes g c = λ tells place may.
    let was = c.self.inside in
    moved_deletes g.D.Disk.files c.args.self.now was.sup was.disk c.fuse.new.self was.phase place c.self.view_is (c.fuse.ensures.same tells) may

pub returns-clause-run : goal.returns-clause-run
returns-clause-run g c = λ tells s run has.
    let was = c.self.inside in
    moved_run run g.D.Disk.files c.args.self.now was.sup was.disk c.fuse.new.self was.phase s c.self.view_is (c.fuse.ensures.same tells) has

pub returns-clause-sees : goal.returns-clause-sees
returns-clause-sees g c = λ tells.
    let was = c.self.inside in
    sight_moved g.D.Disk.files Anywhere c.args.self.now was.sup was.disk c.fuse.new.self was.phase c.self.view_is (c.fuse.ensures.same tells)
