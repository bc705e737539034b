use Rattle.std.specs.Prelude.{IfSome}
use Rattle.hay_logical.specs.Volumes.{IsMachineOf}
use Rattle.hay_shared_volume.proofs.Seats.{of_volume, stays_there, still_unfused, told}
use Rattle.hay_shared_volume.proofs.Telling.{frozen_tells}
use Rattle.hay_shared_volume.proofs.volume.SharedVolume.frozen.Goals as goal

pub frozen-requires : goal.frozen-requires
frozen-requires g c = record { rests = c.requires.fits.2.rests }

pub returns-clause-stays : goal.returns-clause-stays
returns-clause-stays g c v = stays_there g.D.Disk.Tells g.D.Disk.files g.P.Piece.Tells g.D.Disk.fault_count g.D.Disk.fuse_count c.args.self.now c.frozen.ensures.same

pub returns-clause-tells : goal.returns-clause-tells
returns-clause-tells g c volume at =
    frozen_tells volume c.args.seat.now.sight c.frozen.new.seat.sight c.args.tag c.frozen.result
    (told g.D.Disk.Tells g.D.Disk.files g.P.Piece.Tells g.D.Disk.fault_count g.D.Disk.fuse_count (c.frozen.ensures.frozen c.args.tag) at)

pub returns-clause-names : goal.returns-clause-names
returns-clause-names g c v settings fits = of_volume fits (λ s n. IfSome c.frozen.result (IsMachineOf s n)) c.frozen.ensures.on

pub returns-clause-unfused : goal.returns-clause-unfused
returns-clause-unfused g c = still_unfused (c.frozen.ensures.held c.args.tag)
