use Rattle.std.proofs.Common.{◌∙◌}
use Rattle.std.specs.Prelude.{IfErr}
use Rattle.hay_volume_lock.specs.Refusing.{RefusesDelete}
use Rattle.hay_shared_volume.proofs.Naming.{delete_names}
use Rattle.hay_shared_volume.proofs.Seats.{may_act, of_volume, stays_there, still_unfused, told}
use Rattle.hay_shared_volume.proofs.Telling.{delete_tells}
use Rattle.hay_shared_volume.proofs.volume.SharedVolume.delete.Goals as goal

pub delete-requires : goal.delete-requires
delete-requires g c = record { may = may_act c.requires.fits.2 }

pub returns-clause-stays : goal.returns-clause-stays
returns-clause-stays g c v = stays_there g.D.Disk.Tells g.D.Disk.files g.P.Piece.Tells g.D.Disk.fault_count g.D.Disk.fuse_count c.args.self.now c.delete.ensures.same

pub returns-clause-tells : goal.returns-clause-tells
returns-clause-tells g c volume at =
    delete_tells volume c.args.seat.now.sight c.delete.new.seat.sight c.args.tag c.args.pair c.delete.result c.delete_of.result c.delete_of.ensures
    (told g.D.Disk.Tells g.D.Disk.files g.P.Piece.Tells g.D.Disk.fault_count g.D.Disk.fuse_count c.delete.ensures.deleted at)

pub delete_of-requires : goal.delete_of-requires
delete_of-requires g c =
    let fits = c.requires.fits.2 in
    (fits.opened.volume.settings, fits.opened.volume.number, c.delete.ensures.refusals fits.opened (fits.start ∙ fits.is))

pub returns-clause-names : goal.returns-clause-names
returns-clause-names g c v settings fits =
    delete_names settings v c.delete.result c.delete_of.result c.delete_of.ensures (of_volume fits (λ s n. IfErr c.delete.result (RefusesDelete s n)) c.delete.ensures.refusals)

pub returns-clause-unfused : goal.returns-clause-unfused
returns-clause-unfused g c = still_unfused c.delete.ensures.held
