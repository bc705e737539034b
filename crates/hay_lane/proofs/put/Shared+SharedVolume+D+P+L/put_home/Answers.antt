use Rattle.std.proofs.Common.{length, sym, ap, ◌∙◌}
use Rattle.hay_meeting.specs.Facts.{drained_in}
use Rattle.hay_lane.proofs.Putting.{put_answered, put_closed_answered}
use Rattle.hay_lane.proofs.Suiting.{closed_put, put_suits}
use Rattle.hay_lane.proofs.put.Shared+SharedVolume+D+P+L.put_home.Goals as goal

pub returns-in_default-clause-answered : goal.returns-in_default-clause-answered
returns-in_default-clause-answered g c start a of settled =
    put_answered c.args.self.now.settings start c.args.self.now.drained.items c.args.tag c.args.pair c.args.bytes.now a settled c.requires.volume
    (ap (λ drained. drained_in c.args.self.now.settings drained c.args.volume) (sym c.as_slice.ensures.value) ∙ sym c.in_default.ensures.is) c.cookie_of-cookie.result
    c.cookie_of-cookie.ensures c.put_at-answer.result c.put_reply.result
    (c.put_at-answer.ensures.tells start of) c.put_reply.ensures.is

pub returns-clause-answered : goal.returns-clause-answered
returns-clause-answered g c start a of settled =
    put_closed_answered c.args.self.now.settings start c.args.self.now.drained.items c.args.tag c.args.pair c.args.bytes.now a settled c.requires.volume
    (c.closed_at-machine.ensures.tells start of) c.read_only.ensures.is

pub returns-in_default-clause-suits : goal.returns-in_default-clause-suits
returns-in_default-clause-suits g c =
    put_suits c.args.self.now.settings c.args.volume c.requires.seated.fewer c.requires.volume c.args.pair (length c.args.bytes.now) c.args.rows c.cookie_of-cookie.result c.put_at-answer.result
    c.put_reply.result c.cookie_of-cookie.ensures c.put_at-answer.ensures.names c.put_reply.ensures.is

pub returns-clause-suits : goal.returns-clause-suits
returns-clause-suits g c =
    closed_put c.args.self.now.settings c.args.volume c.requires.seated.fewer c.requires.volume c.args.pair (length c.args.bytes.now) c.closed_at-machine.result c.read_only.result
    c.closed_at-machine.ensures.on c.read_only.ensures.is
