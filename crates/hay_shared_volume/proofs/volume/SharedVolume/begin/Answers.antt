use Rattle.std.proofs.Common.{◌∙◌}
use Rattle.std.specs.Prelude.{IfErr}
use Rattle.hay_volume_lock.specs.Refusing.{RefusesBegin}
use Rattle.hay_shared_volume.proofs.Naming.{begin_names}
use Rattle.hay_shared_volume.proofs.Seats.{has_replica, may_act, of_volume, stays_there, still_unfused, told}
use Rattle.hay_shared_volume.proofs.Telling.{begin_tells}
use Rattle.hay_shared_volume.proofs.volume.SharedVolume.begin.Goals as goal

pub begin-requires : goal.begin-requires
begin-requires g c = record { may = may_act c.requires.fits.2; within = has_replica c.requires.fits.2 c.args.replica c.requires.fits.3 }

pub returns-clause-stays : goal.returns-clause-stays
returns-clause-stays g c v = stays_there g.D.Disk.Tells g.D.Disk.files g.P.Piece.Tells g.D.Disk.fault_count g.D.Disk.fuse_count c.args.self.now c.begin.ensures.same

pub returns-clause-tells : goal.returns-clause-tells
returns-clause-tells g c volume at =
    begin_tells volume c.args.seat.now.sight c.begin.new.seat.sight c.args.tag c.args.replica c.begin.result c.begin_of.result c.begin_of.ensures
    (told g.D.Disk.Tells g.D.Disk.files g.P.Piece.Tells g.D.Disk.fault_count g.D.Disk.fuse_count c.begin.ensures.begun at)

pub begin_of-requires : goal.begin_of-requires
begin_of-requires g c =
    let fits = c.requires.fits.2 in
    (fits.opened.volume.settings, fits.opened.volume.number, c.args.replica, c.begin.ensures.refusals fits.opened (fits.start ∙ fits.is))

pub returns-clause-names : goal.returns-clause-names
returns-clause-names g c v settings fits =
    begin_names settings v c.args.replica c.begin.result c.begin_of.result c.begin_of.ensures (of_volume fits (λ s n. IfErr c.begin.result (RefusesBegin s n c.args.replica)) c.begin.ensures.refusals)

pub returns-clause-unfused : goal.returns-clause-unfused
returns-clause-unfused g c = still_unfused c.begin.ensures.held
