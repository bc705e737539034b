use Rattle.hay_lane.proofs.Suiting.{found_suits}
use Rattle.std.proofs.Common.{refl}
use Rattle.hay_lane.proofs.Blaming.{blames_none, reply_blames}
use Rattle.hay_lane.proofs.reads.Shared+SharedVolume+D+P+L.show.Goals as goal

pub returns-in-Ok-fetch-clause-suits : goal.returns-in-Ok-fetch-clause-suits
returns-in-Ok-fetch-clause-suits g c =
    found_suits c.args.self.now.settings c.args.volume c.requires.seated.fewer c.requires.volume c.args.first c.in-Ok-fetch.front c.args.rows c.fetch.new.photo.items c.in-Ok-fetch.found
    c.found_reply.result c.in-Ok-fetch.ensures.within c.found_reply.ensures.is

pub returns-in-Ok-fetch-clause-blames : goal.returns-in-Ok-fetch-clause-blames
returns-in-Ok-fetch-clause-blames g c =
    reply_blames g.A.Arm.is_sure g.A.Arm.fault_count c.args.lane.now.arm c.fetch.new.lane.arm c.args.self.now.settings c.args.volume c.in-Ok-fetch.front c.args.rows c.fetch.new.photo.items
    c.in-Ok-fetch.found c.found_reply.result c.found_reply.ensures.is c.in-Ok-fetch.ensures.blames

pub returns-in_default-clause-blames : goal.returns-in_default-clause-blames
returns-in_default-clause-blames g c = blames_none g.A.Arm.is_sure g.A.Arm.fault_count _ _ _ refl
