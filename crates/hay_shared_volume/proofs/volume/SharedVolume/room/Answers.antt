use Rattle.std.proofs.Common.{◌∙◌}
use Rattle.std.specs.Prelude.{IfErr}
use Rattle.hay_volume_lock.specs.Refusing.{RefusesRoom}
use Rattle.hay_shared_volume.proofs.Naming.{room_names}
use Rattle.hay_shared_volume.proofs.Seats.{of_volume, stays_there, still_unfused, told}
use Rattle.hay_shared_volume.proofs.Telling.{room_tells}
use Rattle.hay_shared_volume.proofs.volume.SharedVolume.room.Goals as goal

pub room-requires : goal.room-requires
room-requires g c = record { rests = c.requires.fits.2.rests }

pub returns-clause-stays : goal.returns-clause-stays
returns-clause-stays g c v = stays_there g.D.Disk.Tells g.D.Disk.files g.P.Piece.Tells g.D.Disk.fault_count g.D.Disk.fuse_count c.args.self.now c.room.ensures.same

pub returns-clause-tells : goal.returns-clause-tells
returns-clause-tells g c volume at =
    room_tells volume c.args.seat.now.sight c.room.new.seat.sight c.args.tag c.args.size c.room.result c.room_of.result c.room_of.ensures
    (told g.D.Disk.Tells g.D.Disk.files g.P.Piece.Tells g.D.Disk.fault_count g.D.Disk.fuse_count (c.room.ensures.room c.args.tag) at)

pub room_of-requires : goal.room_of-requires
room_of-requires g c =
    let fits = c.requires.fits.2 in
    (fits.opened.volume.settings, fits.opened.volume.number, c.args.size, c.room.ensures.refusals fits.opened (fits.start ∙ fits.is))

pub returns-clause-names : goal.returns-clause-names
returns-clause-names g c v settings fits =
    room_names settings v c.args.size c.room.result c.room_of.result c.room_of.ensures (of_volume fits (λ s n. IfErr c.room.result (RefusesRoom s n c.args.size)) c.room.ensures.refusals)

pub returns-clause-unfused : goal.returns-clause-unfused
returns-clause-unfused g c = still_unfused (c.room.ensures.held c.args.tag)
