use Rattle.std.proofs.Common.{sym}
use Rattle.hay_holdings.proofs.Going.{idle_same}
use Rattle.hay_holdings.proofs.Unchanged.{begin_nowhere, idle_unchanged}
use Rattle.hay_lane.specs.Lanes.{sight}
use Rattle.hay_lane.proofs.Maintained.{begin_answered}
use Rattle.hay_shared_volume.specs.Seats.{sight_of}
use Rattle.hay_legal.specs.Known.{replica_on}
use Rattle.hay_legal.specs.Suiting.{SuitsBegin}
use Rattle.hay_lane.proofs.Suiting.{begin_suits, nowhere}
use Rattle.hay_lane.proofs.upkeep.Shared+SharedVolume+D+P+L.begin.Goals as goal

pub returns-in_default-clause-answered : goal.returns-in_default-clause-answered
returns-in_default-clause-answered g c start of =
    begin_nowhere c.args.self.now.settings start c.args.self.now.drained.items
    (idle_unchanged (idle_same c.args.tag (sight sight_of g.L.DirectoryCalls.sight g.A.Arm.fault_count c.args.lane.now))) (sym c.in_default.ensures.is)

pub returns-clause-answered : goal.returns-clause-answered
returns-clause-answered g c start of =
    begin_answered c.args.self.now.settings start c.args.self.now.drained.items c.args.tag
    (sight sight_of g.L.DirectoryCalls.sight g.A.Arm.fault_count c.args.lane.now) (sight sight_of g.L.DirectoryCalls.sight g.A.Arm.fault_count c.begin_at-answer.new.lane)
    c.args.volume c.args.machine c.in-Some.replica (sym c.in-Some.ensures.is) c.in-Some.ensures.within.1 c.in-Some.ensures.within.2
    c.begin_at-answer.result c.begin_reply.result (c.begin_at-answer.ensures.tells start of) c.begin_reply.ensures.is

pub returns-in_default-clause-suits : goal.returns-in_default-clause-suits
returns-in_default-clause-suits g c =
    nowhere (replica_on c.args.self.now.settings c.args.volume c.args.machine) (λ replica. SuitsBegin c.args.self.now.settings c.args.volume c.args.machine) c.in_default.ensures.is

pub returns-clause-suits : goal.returns-clause-suits
returns-clause-suits g c =
    begin_suits c.args.self.now.settings c.args.volume c.requires.seated.fewer c.in-Some.ensures.within.1 c.args.machine c.in-Some.replica c.in-Some.ensures.is c.args.tag.line
    c.begin_at-answer.result c.begin_reply.result c.begin_at-answer.ensures.names c.begin_reply.ensures.is
