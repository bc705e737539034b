use Rattle.std.proofs.Common.{sym}
use Rattle.hay_holdings.proofs.Going.{idle_same}
use Rattle.hay_holdings.proofs.Unchanged.{fuse_nowhere, idle_unchanged}
use Rattle.hay_holdings.proofs.WorkAnswers.{fuses}
use Rattle.hay_lane.specs.Lanes.{sight}
use Rattle.hay_shared_volume.specs.Seats.{sight_of}
use Rattle.hay_legal.specs.Known.{replica_on}
use Rattle.hay_reply.specs.declared.Reply.TheVariants as reply
use Rattle.hay_lane.proofs.Suiting.{fuses as fuses_one, no_fuse}
use Rattle.hay_lane.proofs.upkeep.Shared+SharedVolume+D+P+L.fuse.Goals as goal

pub returns-in_default-clause-answered : goal.returns-in_default-clause-answered
returns-in_default-clause-answered g c start of =
    fuse_nowhere c.args.self.now.settings start c.args.self.now.drained.items
    (idle_unchanged (idle_same c.args.tag (sight sight_of g.L.DirectoryCalls.sight g.A.Arm.fault_count c.args.lane.now))) (sym c.in_default.ensures.is)

pub returns-clause-answered : goal.returns-clause-answered
returns-clause-answered g c start of =
    fuses c.args.self.now.settings start c.args.self.now.drained.items c.args.tag
    (sight sight_of g.L.DirectoryCalls.sight g.A.Arm.fault_count c.args.lane.now) (sight sight_of g.L.DirectoryCalls.sight g.A.Arm.fault_count c.fuse_at.new.lane)
    c.args.volume c.args.machine c.in-Some.replica (sym c.in-Some.ensures.is) c.in-Some.ensures.within.1 (c.fuse_at.ensures.tells start of)

pub returns-in_default-clause-suits : goal.returns-in_default-clause-suits
returns-in_default-clause-suits g c = no_fuse (replica_on c.args.self.now.settings c.args.volume c.args.machine) (reply.Fused c.args.volume c.args.machine c.args.calls) c.in_default.ensures.is

pub returns-clause-suits : goal.returns-clause-suits
returns-clause-suits g c = fuses_one (replica_on c.args.self.now.settings c.args.volume c.args.machine) c.in-Some.replica (reply.Fused c.args.volume c.args.machine c.args.calls) c.in-Some.ensures.is
