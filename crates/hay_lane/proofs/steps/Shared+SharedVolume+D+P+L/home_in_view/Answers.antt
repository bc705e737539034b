use Rattle.hay_holdings.specs.Rows.{HomeShown}
use Rattle.hay_lane.proofs.Stepping.{stepped_rows, still_of_rows, still_seated_rows, unfused_rows}
use Rattle.hay_shared_volume.specs.Seats.{IsSeatOf, WasAt, sight_of}
use Rattle.hay_lane.proofs.steps.Shared+SharedVolume+D+P+L.home_in_view.Goals as goal

pub home-requires : goal.home-requires
home-requires g c = record { fits = (c.args.self.now.settings, c.args.tag.lane, c.requires.seated.rows) }

pub returns-clause-seated : goal.returns-clause-seated
returns-clause-seated g c =
    still_seated_rows IsSeatOf g.L.DirectoryCalls.fits c.args.self.now c.args.tag.lane c.args.lane.now c.requires.seated
    c.home.new.seat g.L.DirectoryCalls.is_at c.home.ensures.stays

pub returns-clause-same : goal.returns-clause-same
returns-clause-same g c =
    still_of_rows IsSeatOf g.L.DirectoryCalls.fits c.args.self.now c.args.tag.lane c.args.lane.now c.requires.seated
    c.home.new.seat g.L.DirectoryCalls.is_at c.home.ensures.stays (WasAt g.D.Disk.Tells g.D.Disk.files g.P.Piece.Tells g.D.Disk.fault_count g.D.Disk.fuse_count) c.args.self.now.settings

pub returns-clause-below : goal.returns-clause-below
returns-clause-below g c = c.home.ensures.below c.args.self.now.settings c.args.tag.lane c.requires.seated.rows

pub returns-clause-tells : goal.returns-clause-tells
returns-clause-tells g c start of =
    stepped_rows IsSeatOf g.L.DirectoryCalls.fits c.args.self.now c.args.tag.lane c.args.lane.now c.requires.seated
    c.home.new.seat sight_of g.L.DirectoryCalls.sight g.A.Arm.fault_count (HomeShown start c.args.pair c.home.result.0 c.home.result.1) (c.home.ensures.tells start of.rows)

pub returns-clause-unfused : goal.returns-clause-unfused
returns-clause-unfused g c =
    unfused_rows IsSeatOf g.L.DirectoryCalls.fits c.args.self.now c.args.tag.lane c.args.lane.now c.requires.seated
    c.home.new.seat sight_of g.L.DirectoryCalls.sight c.home.ensures.unfused
