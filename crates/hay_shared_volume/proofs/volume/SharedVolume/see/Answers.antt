use Rattle.std.proofs.Common.{ap, ◌∙◌}
use Rattle.hay_map.specs.Places.{place_in}
use Rattle.hay_needle.specs.declared.settings.Settings.{Settings}
use Rattle.hay_shared_volume.proofs.Places.{bytes_show, bytes_tell, was_seen}
use Rattle.hay_shared_volume.proofs.Seats.{has_replica, may_act, stays_there, still_unfused, told}
use Rattle.hay_shared_volume.proofs.Telling.{see_tells, sight_tells}
use Rattle.hay_shared_volume.proofs.volume.SharedVolume.see.Goals as goal

pub see-requires : goal.see-requires
see-requires g c = record { may = may_act c.requires.fits.2; within = has_replica c.requires.fits.2 c.args.replica c.requires.fits.3 }

pub returns-in-Ok-clause-stays : goal.returns-in-Ok-clause-stays
returns-in-Ok-clause-stays g c v = stays_there g.D.Disk.Tells g.D.Disk.files g.P.Piece.Tells g.D.Disk.fault_count g.D.Disk.fuse_count c.args.self.now c.in-Ok.ensures.same

pub returns-in-Ok-clause-long : goal.returns-in-Ok-clause-long
returns-in-Ok-clause-long g c v settings lane fits = rw c.looked_of.ensures (c.in-Ok.ensures.long fits.opened (fits.start ∙ fits.is) ∙ ap (λ (s : Settings). s.replicas) fits.settings_are)

pub returns-in-Ok-clause-seen : goal.returns-in-Ok-clause-seen
returns-in-Ok-clause-seen g c = rw c.looked_of.ensures (was_seen (place_in c.in-Ok.looked.row c.args.replica) c.in-Ok.ensures.sighted)

pub returns-in-Ok-clause-needle : goal.returns-in-Ok-clause-needle
returns-in-Ok-clause-needle g c =
    rw c.looked_of.ensures (bytes_show g.D.Disk.Tells g.P.Piece.Tells c.args.out.now.items c.see.new.out.items (place_in c.in-Ok.looked.row c.args.replica) c.requires.empty c.in-Ok.ensures.needle)

pub returns-in-Ok-clause-tells : goal.returns-in-Ok-clause-tells
returns-in-Ok-clause-tells g c volume at =
    rw c.looked_of.ensures
    (see_tells volume c.args.seat.now.sight c.see.new.seat.sight c.args.tag g.P.Piece.Tells c.args.pair c.args.replica c.see.new.out.items c.in-Ok.looked
    (told g.D.Disk.Tells g.D.Disk.files g.P.Piece.Tells g.D.Disk.fault_count g.D.Disk.fuse_count c.in-Ok.ensures.seen at)
    (bytes_tell g.D.Disk.Tells g.P.Piece.Tells c.args.out.now.items c.see.new.out.items (place_in c.in-Ok.looked.row c.args.replica) c.requires.empty at.tells c.in-Ok.ensures.needle))

pub returns-in-Err-clause-stays : goal.returns-in-Err-clause-stays
returns-in-Err-clause-stays g c v = stays_there g.D.Disk.Tells g.D.Disk.files g.P.Piece.Tells g.D.Disk.fault_count g.D.Disk.fuse_count c.args.self.now c.in-Err.ensures.same

pub returns-in-Err-clause-tells : goal.returns-in-Err-clause-tells
returns-in-Err-clause-tells g c volume at =
    sight_tells volume c.args.seat.now.sight c.see.new.seat.sight c.args.tag g.row.P.Denot g.P.Piece.Tells c.args.pair c.args.replica c.see.new.out.items c.in-Err.fault
    c.sight_fault_of.result c.sight_fault_of.ensures (told g.D.Disk.Tells g.D.Disk.files g.P.Piece.Tells g.D.Disk.fault_count g.D.Disk.fuse_count c.in-Err.ensures.seen at)

pub sight_fault_of-requires : goal.sight_fault_of-requires
sight_fault_of-requires g c =
    let fits = c.requires.fits.2 in
    (fits.opened.volume.settings, fits.opened.volume.number, c.in-Err.ensures.refusals fits.opened (fits.start ∙ fits.is))

pub returns-in-Ok-clause-unfused : goal.returns-in-Ok-clause-unfused
returns-in-Ok-clause-unfused g c = still_unfused c.in-Ok.ensures.held

pub returns-in-Err-clause-unfused : goal.returns-in-Err-clause-unfused
returns-in-Err-clause-unfused g c = still_unfused c.in-Err.ensures.held
