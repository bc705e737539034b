use Rattle.std.proofs.Common.{true}
use Rattle.hay_holdings.specs.Rows.{Drained}
use Rattle.hay_lane.proofs.Stepping.{still_of_rows, still_seated_rows, stepped_rows}
use Rattle.hay_shared_volume.specs.Seats.{IsSeatOf, WasAt, sight_of}
use Rattle.hay_lane.proofs.steps.Shared+SharedVolume+D+P+L.drain_machine.Goals as goal

pub drain-requires : goal.drain-requires
drain-requires g c = record { fits = (c.args.self.now.settings, c.requires.seated.rows, c.requires.machine) }

pub returns-clause-seated : goal.returns-clause-seated
returns-clause-seated g c =
    still_seated_rows IsSeatOf g.L.DirectoryCalls.fits c.args.self.now c.args.tag.lane c.args.lane.now c.requires.seated
    c.drain.new.seat g.L.DirectoryCalls.is_at c.drain.ensures.stays

pub returns-clause-same : goal.returns-clause-same
returns-clause-same g c =
    still_of_rows IsSeatOf g.L.DirectoryCalls.fits c.args.self.now c.args.tag.lane c.args.lane.now c.requires.seated
    c.drain.new.seat g.L.DirectoryCalls.is_at c.drain.ensures.stays (WasAt g.D.Disk.Tells g.D.Disk.files g.P.Piece.Tells g.D.Disk.fault_count g.D.Disk.fuse_count) c.args.self.now.settings

pub returns-clause-tells : goal.returns-clause-tells
returns-clause-tells g c start of =
    stepped_rows IsSeatOf g.L.DirectoryCalls.fits c.args.self.now c.args.tag.lane c.args.lane.now c.requires.seated
    c.drain.new.seat sight_of g.L.DirectoryCalls.sight g.A.Arm.fault_count (Drained start c.args.tag c.args.machine true) (c.drain.ensures.tells start of.rows)
