use Rattle.std.proofs.Common.{sym, ap, ◌∙◌}
use Rattle.hay_meeting.specs.Facts.{drained_in}
use Rattle.hay_lane.specs.Lanes.{sight}
use Rattle.hay_lane.proofs.Changed.{closed_answered, delete_answered}
use Rattle.hay_shared_volume.specs.Seats.{sight_of}
use Rattle.hay_lane.proofs.Suiting.{closed_del, delete_suits}
use Rattle.hay_lane.proofs.changes.Shared+SharedVolume+D+P+L.delete_home.Goals as goal

pub returns-in_default-clause-answered : goal.returns-in_default-clause-answered
returns-in_default-clause-answered g c start a of home =
    delete_answered c.args.self.now.settings start c.args.self.now.drained.items c.args.tag home c.requires.volume
    (sight sight_of g.L.DirectoryCalls.sight g.A.Arm.fault_count c.delete_at-answer.new.lane)
    (ap (λ drained. drained_in c.args.self.now.settings drained c.args.volume) (sym c.as_slice.ensures.value) ∙ sym c.in_default.ensures.is) c.delete_at-answer.result
    c.delete_reply.result (c.delete_at-answer.ensures.tells start of) c.delete_reply.ensures.is

pub returns-clause-answered : goal.returns-clause-answered
returns-clause-answered g c start a of home =
    closed_answered c.args.self.now.settings start c.args.self.now.drained.items c.args.tag home c.requires.volume
    (sight sight_of g.L.DirectoryCalls.sight g.A.Arm.fault_count c.closed_at-machine.new.lane)
    (c.closed_at-machine.ensures.tells start of) c.read_only.ensures.is

pub returns-in_default-clause-suits : goal.returns-in_default-clause-suits
returns-in_default-clause-suits g c =
    delete_suits c.args.self.now.settings c.args.volume c.requires.seated.fewer c.requires.volume c.args.rows c.delete_at-answer.result c.delete_reply.result
    c.delete_at-answer.ensures.names c.delete_reply.ensures.is

pub returns-clause-suits : goal.returns-clause-suits
returns-clause-suits g c =
    closed_del c.args.self.now.settings c.args.volume c.requires.seated.fewer c.requires.volume c.closed_at-machine.result c.read_only.result c.closed_at-machine.ensures.on c.read_only.ensures.is
