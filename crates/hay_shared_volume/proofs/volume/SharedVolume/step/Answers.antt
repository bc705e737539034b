use Rattle.std.proofs.Common.{◌∙◌}
use Rattle.std.specs.Prelude.{IfSome}
use Rattle.hay_volume_lock.specs.Refusing.{RefusesRun}
use Rattle.hay_shared_volume.proofs.Naming.{step_names}
use Rattle.hay_shared_volume.proofs.Seats.{has_replica, may_act, of_volume, stays_there, still_unfused, told}
use Rattle.hay_shared_volume.proofs.Telling.{step_tells}
use Rattle.hay_shared_volume.proofs.volume.SharedVolume.step.Goals as goal

pub step-requires : goal.step-requires
step-requires g c = record { may = may_act c.requires.fits.2; within = has_replica c.requires.fits.2 c.args.replica c.requires.fits.3 }

pub returns-clause-stays : goal.returns-clause-stays
returns-clause-stays g c v = stays_there g.D.Disk.Tells g.D.Disk.files g.P.Piece.Tells g.D.Disk.fault_count g.D.Disk.fuse_count c.args.self.now c.step.ensures.same

pub returns-clause-tells : goal.returns-clause-tells
returns-clause-tells g c volume at =
    step_tells volume c.args.seat.now.sight c.step.new.seat.sight c.args.tag c.args.replica c.args.cells c.step.result c.step_of.result c.step_of.ensures
    (told g.D.Disk.Tells g.D.Disk.files g.P.Piece.Tells g.D.Disk.fault_count g.D.Disk.fuse_count c.step.ensures.stepped at)

pub step_of-requires : goal.step_of-requires
step_of-requires g c =
    let fits = c.requires.fits.2 in
    (fits.opened.volume.settings, fits.opened.volume.number, c.args.replica, c.step.ensures.refusals fits.opened (fits.start ∙ fits.is))

pub returns-clause-names : goal.returns-clause-names
returns-clause-names g c v settings fits =
    step_names settings v c.args.replica c.step.result c.step_of.result c.step_of.ensures (of_volume fits (λ s n. IfSome c.step.result.refused (RefusesRun s n c.args.replica)) c.step.ensures.refusals)

pub returns-clause-unfused : goal.returns-clause-unfused
returns-clause-unfused g c = still_unfused c.step.ensures.held
