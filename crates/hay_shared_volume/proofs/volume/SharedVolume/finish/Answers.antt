use Rattle.std.proofs.Common.{◌∙◌}
use Rattle.std.specs.Prelude.{IfErr}
use Rattle.hay_volume_lock.specs.Refusing.{RefusesRun}
use Rattle.hay_shared_volume.proofs.Naming.{finish_names}
use Rattle.hay_shared_volume.proofs.Seats.{has_replica, may_act, of_volume, stays_there, still_unfused, told}
use Rattle.hay_shared_volume.proofs.Telling.{finish_tells}
use Rattle.hay_shared_volume.proofs.volume.SharedVolume.finish.Goals as goal

pub finish-requires : goal.finish-requires
finish-requires g c = record { may = may_act c.requires.fits.2; within = has_replica c.requires.fits.2 c.args.replica c.requires.fits.3 }

pub returns-clause-stays : goal.returns-clause-stays
returns-clause-stays g c v = stays_there g.D.Disk.Tells g.D.Disk.files g.P.Piece.Tells g.D.Disk.fault_count g.D.Disk.fuse_count c.args.self.now c.finish.ensures.same

pub returns-clause-tells : goal.returns-clause-tells
returns-clause-tells g c volume at =
    finish_tells volume c.args.seat.now.sight c.finish.new.seat.sight c.args.tag c.args.replica c.finish.result c.finish_of.result c.finish_of.ensures
    (told g.D.Disk.Tells g.D.Disk.files g.P.Piece.Tells g.D.Disk.fault_count g.D.Disk.fuse_count c.finish.ensures.finished at)

pub finish_of-requires : goal.finish_of-requires
finish_of-requires g c =
    let fits = c.requires.fits.2 in
    (fits.opened.volume.settings, fits.opened.volume.number, c.args.replica, c.finish.ensures.refusals fits.opened (fits.start ∙ fits.is))

pub returns-clause-names : goal.returns-clause-names
returns-clause-names g c v settings fits =
    finish_names settings v c.args.replica c.finish.result c.finish_of.result c.finish_of.ensures
    (of_volume fits (λ s n. IfErr c.finish.result (λ unfinished. RefusesRun s n c.args.replica unfinished.fault)) c.finish.ensures.refusals)

pub returns-clause-unfused : goal.returns-clause-unfused
returns-clause-unfused g c = still_unfused c.finish.ensures.held
