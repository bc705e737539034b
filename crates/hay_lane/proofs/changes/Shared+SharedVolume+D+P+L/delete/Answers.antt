use Rattle.std.proofs.Common.{inl, inr, refl}
use Rattle.hay_holdings.proofs.DelAnswers.{del_unknown}
use Rattle.hay_lane.specs.Lanes.{sight}
use Rattle.hay_lane.proofs.Changed.{saw}
use Rattle.hay_shared_volume.specs.Seats.{sight_of}
use Rattle.hay_lane.proofs.changes.Shared+SharedVolume+D+P+L.delete.Goals as goal

pub returns-in_default-clause-answered : goal.returns-in_default-clause-answered
returns-in_default-clause-answered g c start of =
    del_unknown c.args.self.now.settings start c.args.self.now.drained.items c.args.tag
    (saw c.args.self.now.settings start c.args.self.now.drained.items c.args.tag c.in_default.is (c.home_in_view-rows.ensures.tells start of))

pub returns-clause-answered : goal.returns-clause-answered
returns-clause-answered g c start of =
    c.delete_home.ensures.answered start (sight sight_of g.L.DirectoryCalls.sight g.A.Arm.fault_count c.args.lane.now) (c.home_in_view-rows.ensures.same start of)
    (saw c.args.self.now.settings start c.args.self.now.drained.items c.args.tag c.in-Some.is (c.home_in_view-rows.ensures.tells start of))

pub returns-in_default-clause-suits : goal.returns-in_default-clause-suits
returns-in_default-clause-suits g c = inr (inr (inl (c.home_in_view-rows.result.0, refl)))
