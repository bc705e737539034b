use Rattle.std.proofs.Common.{◌∙◌}
use Rattle.std.specs.Prelude.{IfErr, length}
use Rattle.hay_volume_lock.specs.Refusing.{RefusesPut}
use Rattle.hay_shared_volume.proofs.Naming.{put_names}
use Rattle.hay_shared_volume.proofs.Seats.{may_act, of_volume, stays_there, still_unfused, told}
use Rattle.hay_shared_volume.proofs.Telling.{put_tells}
use Rattle.hay_shared_volume.proofs.volume.SharedVolume.put.Goals as goal

pub put-requires : goal.put-requires
put-requires g c = record { may = may_act c.requires.fits.2; size = c.requires.size }

pub returns-clause-stays : goal.returns-clause-stays
returns-clause-stays g c v = stays_there g.D.Disk.Tells g.D.Disk.files g.P.Piece.Tells g.D.Disk.fault_count g.D.Disk.fuse_count c.args.self.now c.put.ensures.same

pub returns-clause-tells : goal.returns-clause-tells
returns-clause-tells g c volume at =
    put_tells volume c.args.seat.now.sight c.put.new.seat.sight c.args.tag c.args.pair c.args.cookie c.args.bytes.now c.put.result c.put_of.result c.put_of.ensures
    (told g.D.Disk.Tells g.D.Disk.files g.P.Piece.Tells g.D.Disk.fault_count g.D.Disk.fuse_count c.put.ensures.put at)

pub put_of-requires : goal.put_of-requires
put_of-requires g c =
    let fits = c.requires.fits.2 in
    (fits.opened.volume.settings, fits.opened.volume.number, length c.args.bytes.now, c.put.ensures.refusals fits.opened (fits.start ∙ fits.is))

pub returns-clause-names : goal.returns-clause-names
returns-clause-names g c v settings fits =
    put_names settings v (length c.args.bytes.now) c.put.result c.put_of.result c.put_of.ensures
    (of_volume fits (λ s n. IfErr c.put.result (RefusesPut s n (length c.args.bytes.now))) c.put.ensures.refusals)

pub returns-clause-unfused : goal.returns-clause-unfused
returns-clause-unfused g c = still_unfused c.put.ensures.held
