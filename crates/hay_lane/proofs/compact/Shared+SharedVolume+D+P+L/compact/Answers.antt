use Rattle.std.proofs.Common.{sym}
use Rattle.hay_holdings.proofs.Going.{idle_same}
use Rattle.hay_holdings.proofs.Unchanged.{compact_nowhere, idle_unchanged}
use Rattle.hay_lane.specs.Lanes.{sight}
use Rattle.hay_shared_volume.specs.Seats.{sight_of}
use Rattle.hay_legal.specs.Known.{replica_on}
use Rattle.hay_legal.specs.Suiting.{SuitsCompact}
use Rattle.hay_lane.proofs.Suiting.{nowhere}
use Rattle.hay_lane.proofs.compact.Shared+SharedVolume+D+P+L.compact.Goals as goal

pub returns-in_default-clause-answered : goal.returns-in_default-clause-answered
returns-in_default-clause-answered g c start of =
    compact_nowhere c.args.self.now.settings start c.args.self.now.drained.items
    (idle_unchanged (idle_same c.args.tag (sight sight_of g.L.DirectoryCalls.sight g.A.Arm.fault_count c.args.lane.now))) (sym c.in_default.ensures.is)

pub returns-in_default-clause-suits : goal.returns-in_default-clause-suits
returns-in_default-clause-suits g c =
    nowhere (replica_on c.args.self.now.settings c.args.volume c.args.machine) (λ replica. SuitsCompact c.args.self.now.settings c.args.volume c.args.machine) c.in_default.ensures.is
