use Rattle.std.proofs.Common.{◌<◌, subst, inl, refl}
use Rattle.std.specs.Prelude.{IfSome}
use Rattle.hay_holdings.proofs.ReadAnswers.{read_answered, shows_unknown}
use Rattle.hay_lane.specs.Lanes.{sight}
use Rattle.hay_lane.specs.Reads.{ShowTells}
use Rattle.hay_lane.proofs.Arms.{later_on, later_same}
use Rattle.hay_lane.proofs.Changed.{saw}
use Rattle.hay_lane.proofs.Showing.{read_shown}
use Rattle.hay_shared_volume.specs.Seats.{sight_of}
use Rattle.hay_legal.specs.Suiting.{SuitsRead}
use Rattle.hay_lane.proofs.Suiting.{read_suits}
use Rattle.hay_lane.specs.Blames.{Blames, causes_told}
use Rattle.hay_lane.proofs.Blaming.{blames_none}
use Rattle.hay_lane.proofs.reads.Shared+SharedVolume+D+P+L.read.Goals as goal

pub returns-in_default-clause-answered : goal.returns-in_default-clause-answered
returns-in_default-clause-answered g c start of =
    read_answered c.args.self.now.settings start c.args.self.now.drained.items c.args.tag
    (shows_unknown c.args.self.now.settings start c.args.self.now.drained.items c.args.tag
    (saw c.args.self.now.settings start c.args.self.now.drained.items c.args.tag c.in_default.is (c.home_in_view-rows.ensures.tells start of)))

pub returns-clause-answered : goal.returns-clause-answered
returns-clause-answered g c start of =
    let a = sight sight_of g.L.DirectoryCalls.sight g.A.Arm.fault_count c.args.lane.now in
    let b = sight sight_of g.L.DirectoryCalls.sight g.A.Arm.fault_count c.show.new.lane in
    let rows = c.home_in_view-rows.result.0 in
    read_shown c.args.self.now.settings start c.args.self.now.drained.items c.args.tag c.args.pair c.args.cookie rows c.in-Some.volume
    (subst (λ o. IfSome o (λ home. home < c.args.self.now.settings.volumes)) c.in-Some.is c.home_in_view-rows.ensures.below) c.requires.seated.fewer a b c.show.result
    (subst (λ n. ShowTells c.args.self.now.settings start c.args.self.now.drained.items c.args.tag c.args.pair c.args.cookie rows c.in-Some.volume n c.show.result a b) c.start_of-first.ensures.is
    (c.show.ensures.tells start a (c.home_in_view-rows.ensures.same start of)
    (saw c.args.self.now.settings start c.args.self.now.drained.items c.args.tag c.in-Some.is (c.home_in_view-rows.ensures.tells start of))))

pub returns-in_default-clause-arm : goal.returns-in_default-clause-arm
returns-in_default-clause-arm g c = later_same c.home_in_view-rows.ensures.arm

pub returns-clause-arm : goal.returns-clause-arm
returns-clause-arm g c = later_on (later_same c.home_in_view-rows.ensures.arm) c.show.ensures.arm

pub returns-in_default-clause-suits : goal.returns-in_default-clause-suits
returns-in_default-clause-suits g c = inl (c.home_in_view-rows.result.0, refl)

pub returns-clause-suits : goal.returns-clause-suits
returns-clause-suits g c =
    subst (λ first. SuitsRead c.args.self.now.settings first c.show.result) c.start_of-first.ensures.is
    (read_suits c.args.self.now.settings c.in-Some.volume c.requires.seated.fewer (subst (λ o. IfSome o (λ home. home < c.args.self.now.settings.volumes)) c.in-Some.is
    c.home_in_view-rows.ensures.below) c.start_of-first.result c.show.result c.show.ensures.suits)

pub returns-in_default-clause-blames : goal.returns-in_default-clause-blames
returns-in_default-clause-blames g c = blames_none g.A.Arm.is_sure g.A.Arm.fault_count _ _ _ refl

pub returns-clause-blames : goal.returns-clause-blames
returns-clause-blames g c =
    subst (λ arm. Blames g.A.Arm.is_sure g.A.Arm.fault_count arm c.show.new.lane.arm (causes_told c.show.result)) c.home_in_view-rows.ensures.arm c.show.ensures.blames
