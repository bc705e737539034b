use Rattle.hay_lane.proofs.Showing.{found_as}
use Rattle.hay_lane.proofs.Suiting.{found_within}
use Rattle.hay_lane.proofs.Blaming.{found_blames}
use Rattle.hay_lane.proofs.reads.Shared+SharedVolume+D+P+L.fetch.Goals as goal

pub returns-clause-found : goal.returns-clause-found
returns-clause-found g c start d a of sees =
    found_as c.args.self.now.settings start c.args.self.now.drained.items c.args.tag c.args.pair d c.args.volume c.args.first c.loop.read c.found_of.result c.found_of.ensures.is
    (c.loop.invariant.tells start d a of sees)

pub returns-clause-within : goal.returns-clause-within
returns-clause-within g c =
    found_within c.args.first c.args.self.now.settings.replicas c.loop.photo.items c.loop.read c.found_of.result c.found_of.ensures.is c.loop.invariant.shown c.loop.invariant.bytes

pub returns-clause-blames : goal.returns-clause-blames
returns-clause-blames g c =
    found_blames g.A.Arm.is_sure g.A.Arm.fault_count c.args.lane.now.arm c.loop.lane.arm c.loop.read c.found_of.result c.found_of.ensures.is c.loop.invariant.blames
