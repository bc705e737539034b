use Rattle.hay_holdings.proofs.PutAnswers.{settles}
use Rattle.hay_lane.specs.Lanes.{sight}
use Rattle.hay_lane.proofs.Changed.{saw}
use Rattle.hay_shared_volume.specs.Seats.{sight_of}
use Rattle.hay_lane.proofs.put.Shared+SharedVolume+D+P+L.put.Goals as goal

pub returns-in-Some-clause-answered : goal.returns-in-Some-clause-answered
returns-in-Some-clause-answered g c start of =
    c.put_home.ensures.answered start (sight sight_of g.L.DirectoryCalls.sight g.A.Arm.fault_count c.args.lane.now) (c.home_in_view-rows.ensures.same start of)
    (settles c.args.self.now.settings start c.args.self.now.drained.items c.args.tag
    (saw c.args.self.now.settings start c.args.self.now.drained.items c.args.tag c.in-Some.is (c.home_in_view-rows.ensures.tells start of)))

pub returns-in-None-clause-answered : goal.returns-in-None-clause-answered
returns-in-None-clause-answered g c start of =
    c.put_first.ensures.answered start c.home_in_view-rows.result.0 (sight sight_of g.L.DirectoryCalls.sight g.A.Arm.fault_count c.args.lane.now) (c.home_in_view-rows.ensures.same start of)
    (saw c.args.self.now.settings start c.args.self.now.drained.items c.args.tag c.in-None.is (c.home_in_view-rows.ensures.tells start of))
