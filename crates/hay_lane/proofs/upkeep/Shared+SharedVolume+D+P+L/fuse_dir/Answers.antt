use Rattle.std.proofs.Common.{refl}
use Rattle.hay_holdings.proofs.WorkAnswers.{fuses_dir}
use Rattle.hay_lane.specs.Lanes.{sight}
use Rattle.hay_shared_volume.specs.Seats.{sight_of}
use Rattle.hay_lane.proofs.upkeep.Shared+SharedVolume+D+P+L.fuse_dir.Goals as goal

pub returns-clause-answered : goal.returns-clause-answered
returns-clause-answered g c start of =
    fuses_dir c.args.self.now.settings start c.args.self.now.drained.items c.args.tag
    (sight sight_of g.L.DirectoryCalls.sight g.A.Arm.fault_count c.args.lane.now) (sight sight_of g.L.DirectoryCalls.sight g.A.Arm.fault_count c.fuse_directory.new.lane)
    (c.fuse_directory.ensures.tells start of)

pub returns-clause-suits : goal.returns-clause-suits
returns-clause-suits g c = refl
