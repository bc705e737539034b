use Rattle.hay_lane.specs.Tellings.{SettleTells}
use Rattle.hay_lane.proofs.Stepping.{stepped_rows, still_of_rows, still_seated_rows, unfused_rows}
use Rattle.hay_shared_volume.specs.Seats.{IsSeatOf, WasAt, sight_of}
use Rattle.hay_lane.proofs.steps.Shared+SharedVolume+D+P+L.settle_home.Goals as goal

pub settle-requires : goal.settle-requires
settle-requires g c = record { fits = (c.args.self.now.settings, c.requires.seated.rows, c.requires.volume) }

pub returns-clause-seated : goal.returns-clause-seated
returns-clause-seated g c =
    still_seated_rows IsSeatOf g.L.DirectoryCalls.fits c.args.self.now c.args.tag.lane c.args.lane.now c.requires.seated
    c.settle.new.seat g.L.DirectoryCalls.is_at c.settle.ensures.stays

pub returns-clause-same : goal.returns-clause-same
returns-clause-same g c =
    still_of_rows IsSeatOf g.L.DirectoryCalls.fits c.args.self.now c.args.tag.lane c.args.lane.now c.requires.seated
    c.settle.new.seat g.L.DirectoryCalls.is_at c.settle.ensures.stays (WasAt g.D.Disk.Tells g.D.Disk.files g.P.Piece.Tells g.D.Disk.fault_count g.D.Disk.fuse_count) c.args.self.now.settings

pub returns-clause-below : goal.returns-clause-below
returns-clause-below g c = c.settle.ensures.below c.args.self.now.settings c.args.tag.lane c.requires.seated.rows

pub returns-clause-tells : goal.returns-clause-tells
returns-clause-tells g c start of =
    stepped_rows IsSeatOf g.L.DirectoryCalls.fits c.args.self.now c.args.tag.lane c.args.lane.now c.requires.seated
    c.settle.new.seat sight_of g.L.DirectoryCalls.sight g.A.Arm.fault_count (SettleTells start c.args.tag (record { pair = c.args.pair; volume = c.args.volume }) c.settle.result)
    (c.settle.ensures.tells start of.rows)

pub returns-clause-unfused : goal.returns-clause-unfused
returns-clause-unfused g c =
    unfused_rows IsSeatOf g.L.DirectoryCalls.fits c.args.self.now c.args.tag.lane c.args.lane.now c.requires.seated
    c.settle.new.seat sight_of g.L.DirectoryCalls.sight c.settle.ensures.unfused
