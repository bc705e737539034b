use Rattle.hay_shared_volume.proofs.Seats.{always, has_replica, may_act, stays_there}
use Rattle.hay_shared_volume.proofs.volume.SharedVolume.fuse.Goals as goal

pub fuse-requires : goal.fuse-requires
fuse-requires g c = record { may = may_act c.requires.fits.2; within = has_replica c.requires.fits.2 c.args.replica c.requires.fits.3 }

pub returns-clause-stays : goal.returns-clause-stays
returns-clause-stays g c v = stays_there g.D.Disk.Tells g.D.Disk.files g.P.Piece.Tells g.D.Disk.fault_count g.D.Disk.fuse_count c.args.self.now c.fuse.ensures.same

pub returns-clause-tells : goal.returns-clause-tells
returns-clause-tells g c volume at = always g.D.Disk.Tells g.D.Disk.files g.P.Piece.Tells g.D.Disk.fault_count g.D.Disk.fuse_count c.fuse.ensures.fused at
