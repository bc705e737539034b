use Rattle.std.proofs.Common.{ap, ◌∙◌}
use Rattle.hay_needle.specs.declared.settings.Settings.{Settings}
use Rattle.hay_shared_volume.proofs.Seats.{looked_unfused, stays_there, told}
use Rattle.hay_shared_volume.proofs.Telling.{look_tells}
use Rattle.hay_shared_volume.proofs.volume.SharedVolume.look.Goals as goal

pub returns-clause-stays : goal.returns-clause-stays
returns-clause-stays g c v = stays_there g.D.Disk.Tells g.D.Disk.files g.P.Piece.Tells g.D.Disk.fault_count g.D.Disk.fuse_count c.args.self.now c.look.ensures.same

pub returns-clause-long : goal.returns-clause-long
returns-clause-long g c v settings lane fits = rw c.looked_of.ensures (c.look.ensures.long fits.opened (fits.start ∙ fits.is) ∙ ap (λ (s : Settings). s.replicas) fits.settings_are)

pub returns-clause-tells : goal.returns-clause-tells
returns-clause-tells g c volume at =
    rw c.looked_of.ensures (look_tells volume c.args.seat.now.sight c.look.new.self.sight g.P.Piece.Tells c.args.pair c.look.result
    (told g.D.Disk.Tells g.D.Disk.files g.P.Piece.Tells g.D.Disk.fault_count g.D.Disk.fuse_count c.look.ensures.shown at)
    (told g.D.Disk.Tells g.D.Disk.files g.P.Piece.Tells g.D.Disk.fault_count g.D.Disk.fuse_count c.look.ensures.places at))

pub returns-clause-unfused : goal.returns-clause-unfused
returns-clause-unfused g c = looked_unfused c.look.ensures.looked
