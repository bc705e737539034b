use Rattle.std.proofs.Common.{◌∙◌}
use Rattle.std.specs.Prelude.{IfErr}
use Rattle.hay_volume_lock.specs.Refusing.{RefusesEnd}
use Rattle.hay_shared_volume.proofs.Naming.{compaction_names}
use Rattle.hay_shared_volume.proofs.Seats.{has_replica, may_act, of_volume, stays_there, still_unfused, told}
use Rattle.hay_shared_volume.proofs.Telling.{compaction_tells}
use Rattle.hay_shared_volume.proofs.volume.SharedVolume.compact.Goals as goal

pub compact-requires : goal.compact-requires
compact-requires g c = record { may = may_act c.requires.fits.2; within = has_replica c.requires.fits.2 c.args.replica c.requires.fits.3; few = (c.requires.fits.2).few }

pub returns-clause-stays : goal.returns-clause-stays
returns-clause-stays g c v = stays_there g.D.Disk.Tells g.D.Disk.files g.P.Piece.Tells g.D.Disk.fault_count g.D.Disk.fuse_count c.args.self.now c.compact.ensures.same

pub returns-clause-tells : goal.returns-clause-tells
returns-clause-tells g c volume at =
    compaction_tells volume c.args.seat.now.sight c.compact.new.seat.sight c.args.tag c.args.replica c.compact.result c.compaction_of.result c.compaction_of.ensures
    (told g.D.Disk.Tells g.D.Disk.files g.P.Piece.Tells g.D.Disk.fault_count g.D.Disk.fuse_count c.compact.ensures.compacted at)

pub compaction_of-requires : goal.compaction_of-requires
compaction_of-requires g c =
    let fits = c.requires.fits.2 in
    (fits.opened.volume.settings, fits.opened.volume.number, c.args.replica, c.compact.ensures.refusals fits.opened (fits.start ∙ fits.is))

pub returns-clause-names : goal.returns-clause-names
returns-clause-names g c v settings fits =
    compaction_names settings v c.args.replica c.compact.result c.compaction_of.result c.compaction_of.ensures
    (of_volume fits (λ s n. IfErr c.compact.result (RefusesEnd s n c.args.replica)) c.compact.ensures.refusals)

pub returns-clause-unfused : goal.returns-clause-unfused
returns-clause-unfused g c = still_unfused c.compact.ensures.held
