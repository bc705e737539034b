use Rattle.std.proofs.Common.{sym}
use Rattle.hay_holdings.proofs.Going.{idle_same}
use Rattle.hay_holdings.proofs.Unchanged.{flush_nowhere, idle_unchanged}
use Rattle.hay_lane.specs.Lanes.{sight}
use Rattle.hay_lane.proofs.Maintained.{flush_answered}
use Rattle.hay_shared_volume.specs.Seats.{sight_of}
use Rattle.hay_legal.specs.Known.{replica_on}
use Rattle.hay_legal.specs.Suiting.{SuitsFlush}
use Rattle.hay_lane.proofs.Suiting.{flush_suits, nowhere}
use Rattle.hay_lane.proofs.upkeep.Shared+SharedVolume+D+P+L.flush.Goals as goal

pub returns-in_default-clause-answered : goal.returns-in_default-clause-answered
returns-in_default-clause-answered g c start of =
    flush_nowhere c.args.self.now.settings start c.args.self.now.drained.items
    (idle_unchanged (idle_same c.args.tag (sight sight_of g.L.DirectoryCalls.sight g.A.Arm.fault_count c.args.lane.now))) (sym c.in_default.ensures.is)

pub returns-clause-answered : goal.returns-clause-answered
returns-clause-answered g c start of =
    flush_answered c.args.self.now.settings start c.args.self.now.drained.items c.args.tag
    (sight sight_of g.L.DirectoryCalls.sight g.A.Arm.fault_count c.args.lane.now) (sight sight_of g.L.DirectoryCalls.sight g.A.Arm.fault_count c.flush_at-answer.new.lane)
    c.args.volume c.args.machine c.in-Some.replica (sym c.in-Some.ensures.is) c.in-Some.ensures.within.1 c.in-Some.ensures.within.2
    c.flush_at-answer.result c.flush_reply.result (c.flush_at-answer.ensures.tells start of) c.flush_reply.ensures.is

pub returns-in_default-clause-suits : goal.returns-in_default-clause-suits
returns-in_default-clause-suits g c =
    nowhere (replica_on c.args.self.now.settings c.args.volume c.args.machine) (λ replica. SuitsFlush c.args.self.now.settings c.args.volume c.args.machine) c.in_default.ensures.is

pub returns-clause-suits : goal.returns-clause-suits
returns-clause-suits g c =
    flush_suits c.args.self.now.settings c.args.volume c.requires.seated.fewer c.in-Some.ensures.within.1 c.args.machine c.in-Some.replica c.in-Some.ensures.is c.args.tag.line
    c.flush_at-answer.result c.flush_reply.result c.flush_at-answer.ensures.names c.flush_reply.ensures.is
