use Rattle.std.proofs.Common.{refl, ap, ◌∙◌, inl, inr, ◌<◌, subst}
use Rattle.hay_legal.specs.Known.{machine_of}
use Rattle.hay_holdings.proofs.DelAnswers.{url_told, url_unknown}
use Rattle.hay_lane.proofs.Changed.{saw}
use Rattle.std.specs.Prelude.{IfSome}
use Rattle.hay_lane.proofs.Suiting.{url_suits}
use Rattle.hay_lane.proofs.changes.Shared+SharedVolume+D+P+L.url.Goals as goal

pub returns-in_default-clause-answered : goal.returns-in_default-clause-answered
returns-in_default-clause-answered g c start of =
    url_unknown c.args.self.now.settings start c.args.self.now.drained.items c.args.tag
    (saw c.args.self.now.settings start c.args.self.now.drained.items c.args.tag c.in_default.is (c.home_in_view-rows.ensures.tells start of))

pub returns-clause-answered : goal.returns-clause-answered
returns-clause-answered g c start of =
    url_told c.args.self.now.settings start c.args.self.now.drained.items c.args.tag refl c.cookie_of.ensures
    (c.machine_of.ensures.is ∙ ap (machine_of c.args.self.now.settings c.in-Some.volume) c.start_of-first.ensures.is)
    (saw c.args.self.now.settings start c.args.self.now.drained.items c.args.tag c.in-Some.is (c.home_in_view-rows.ensures.tells start of))

pub returns-in_default-clause-suits : goal.returns-in_default-clause-suits
returns-in_default-clause-suits g c = inr (inl (c.home_in_view-rows.result.0, refl))

pub returns-clause-suits : goal.returns-clause-suits
returns-clause-suits g c =
    url_suits c.args.self.now.settings c.args.tag.line c.args.pair c.home_in_view-rows.result.0 c.in-Some.volume c.start_of-first.result c.machine_of.result c.cookie_of.result
    (subst (λ o. IfSome o (λ home. home < c.args.self.now.settings.volumes)) c.in-Some.is c.home_in_view-rows.ensures.below) c.start_of-first.ensures.is c.machine_of.ensures.is c.cookie_of.ensures
