use Rattle.std.proofs.Common.{◌<◌, refl, subst, sym, inl, inr}
use Rattle.std.specs.Prelude.{IfSome}
use Rattle.hay_holdings.proofs.Going.{idle_same}
use Rattle.hay_holdings.proofs.ReadAnswers.{get_moved, get_unknown, shows_unknown}
use Rattle.hay_holdings.proofs.Unchanged.{get_nowhere, idle_unchanged}
use Rattle.hay_lane.specs.Lanes.{sight}
use Rattle.hay_lane.proofs.Arms.{later_on, later_same}
use Rattle.hay_lane.proofs.Changed.{saw}
use Rattle.hay_lane.proofs.Showing.{get_shown}
use Rattle.hay_shared_volume.specs.Seats.{sight_of}
use Rattle.hay_legal.specs.Known.{replica_on}
use Rattle.hay_legal.specs.Suiting.{SuitsGet}
use Rattle.hay_lane.proofs.Suiting.{at_replica, get_suits, nowhere}
use Rattle.hay_reply.specs.declared.Reply.TheVariants as reply
use Rattle.hay_lane.specs.Blames.{Blames, causes_told}
use Rattle.hay_lane.proofs.Blaming.{blames_none}
use Rattle.hay_lane.proofs.reads.Shared+SharedVolume+D+P+L.get.Goals as goal

pub returns-in_default-clause-answered : goal.returns-in_default-clause-answered
returns-in_default-clause-answered g c start of =
    get_nowhere c.args.self.now.settings start c.args.self.now.drained.items
    (idle_unchanged (idle_same c.args.tag (sight sight_of g.L.DirectoryCalls.sight g.A.Arm.fault_count c.args.lane.now))) (sym c.in_default.ensures.is)

pub returns-in_default-home-clause-answered : goal.returns-in_default-home-clause-answered
returns-in_default-home-clause-answered g c start of =
    let a = sight sight_of g.L.DirectoryCalls.sight g.A.Arm.fault_count c.args.lane.now in
    let b = sight sight_of g.L.DirectoryCalls.sight g.A.Arm.fault_count c.home_in_view-rows.new.lane in
    get_unknown c.args.self.now.settings start c.args.self.now.drained.items c.args.tag c.args.url.now (sym c.in-Some.ensures.is) a b
    (shows_unknown c.args.self.now.settings start c.args.self.now.drained.items c.args.tag
    (saw c.args.self.now.settings start c.args.self.now.drained.items c.args.tag c.in_default-home.is (c.home_in_view-rows.ensures.tells start of)))

pub returns-then-volume-url-clause-answered : goal.returns-then-volume-url-clause-answered
returns-then-volume-url-clause-answered g c start of =
    let a = sight sight_of g.L.DirectoryCalls.sight g.A.Arm.fault_count c.args.lane.now in
    let b = sight sight_of g.L.DirectoryCalls.sight g.A.Arm.fault_count c.home_in_view-rows.new.lane in
    get_moved c.args.self.now.settings start c.args.self.now.drained.items c.args.tag c.args.url.now (sym c.in-Some.ensures.is) a b c.if-volume-url.true
    (saw c.args.self.now.settings start c.args.self.now.drained.items c.args.tag c.in-Some-home.is (c.home_in_view-rows.ensures.tells start of))

pub returns-clause-answered : goal.returns-clause-answered
returns-clause-answered g c start of =
    let a = sight sight_of g.L.DirectoryCalls.sight g.A.Arm.fault_count c.args.lane.now in
    let b = sight sight_of g.L.DirectoryCalls.sight g.A.Arm.fault_count c.show.new.lane in
    get_shown c.args.self.now.settings start c.args.self.now.drained.items c.args.tag c.args.url.now c.home_in_view-rows.result.0 c.in-Some-home.volume c.in-Some.first c.if-volume-url.false
    (sym c.in-Some.ensures.is) (subst (λ o. IfSome o (λ home. home < c.args.self.now.settings.volumes)) c.in-Some-home.is c.home_in_view-rows.ensures.below) c.requires.seated.fewer a b c.show.result
    (c.show.ensures.tells start a (c.home_in_view-rows.ensures.same start of)
    (saw c.args.self.now.settings start c.args.self.now.drained.items c.args.tag c.in-Some-home.is (c.home_in_view-rows.ensures.tells start of)))

pub returns-in_default-clause-arm : goal.returns-in_default-clause-arm
returns-in_default-clause-arm g c = later_same refl

pub returns-in_default-home-clause-arm : goal.returns-in_default-home-clause-arm
returns-in_default-home-clause-arm g c = later_same c.home_in_view-rows.ensures.arm

pub returns-then-volume-url-clause-arm : goal.returns-then-volume-url-clause-arm
returns-then-volume-url-clause-arm g c = later_same c.home_in_view-rows.ensures.arm

pub returns-clause-arm : goal.returns-clause-arm
returns-clause-arm g c = later_on (later_same c.home_in_view-rows.ensures.arm) c.show.ensures.arm

pub returns-in_default-clause-suits : goal.returns-in_default-clause-suits
returns-in_default-clause-suits g c =
    nowhere (replica_on c.args.self.now.settings c.args.url.now.volume c.args.url.now.machine) (SuitsGet c.args.self.now.settings c.args.url.now) c.in_default.ensures.is

pub returns-in_default-home-clause-suits : goal.returns-in_default-home-clause-suits
returns-in_default-home-clause-suits g c =
    at_replica (replica_on c.args.self.now.settings c.args.url.now.volume c.args.url.now.machine) (SuitsGet c.args.self.now.settings c.args.url.now) c.in-Some.first
    (reply.Unknown c.home_in_view-rows.result.0) c.in-Some.ensures.is (inl (inl (c.home_in_view-rows.result.0, refl)))

pub returns-then-volume-url-clause-suits : goal.returns-then-volume-url-clause-suits
returns-then-volume-url-clause-suits g c =
    at_replica (replica_on c.args.self.now.settings c.args.url.now.volume c.args.url.now.machine) (SuitsGet c.args.self.now.settings c.args.url.now) c.in-Some.first
    (reply.Moved c.in-Some-home.volume c.home_in_view-rows.result.0) c.in-Some.ensures.is
    (inl (inr (inl (
      c.in-Some-home.volume,
      c.home_in_view-rows.result.0,
      (subst (λ o. IfSome o (λ home. home < c.args.self.now.settings.volumes)) c.in-Some-home.is
          c.home_in_view-rows.ensures.below),
      c.if-volume-url.true,
      refl,
    ))))

pub returns-clause-suits : goal.returns-clause-suits
returns-clause-suits g c =
    at_replica (replica_on c.args.self.now.settings c.args.url.now.volume c.args.url.now.machine) (SuitsGet c.args.self.now.settings c.args.url.now) c.in-Some.first
    c.show.result c.in-Some.ensures.is
    (get_suits c.args.self.now.settings c.in-Some-home.volume c.requires.seated.fewer
    (subst (λ o. IfSome o (λ home. home < c.args.self.now.settings.volumes)) c.in-Some-home.is c.home_in_view-rows.ensures.below) c.args.url.now c.in-Some.first c.show.result
    c.if-volume-url.false c.show.ensures.suits)

pub returns-in_default-clause-blames : goal.returns-in_default-clause-blames
returns-in_default-clause-blames g c = blames_none g.A.Arm.is_sure g.A.Arm.fault_count _ _ _ refl

pub returns-in_default-home-clause-blames : goal.returns-in_default-home-clause-blames
returns-in_default-home-clause-blames g c = blames_none g.A.Arm.is_sure g.A.Arm.fault_count _ _ _ refl

pub returns-then-volume-url-clause-blames : goal.returns-then-volume-url-clause-blames
returns-then-volume-url-clause-blames g c = blames_none g.A.Arm.is_sure g.A.Arm.fault_count _ _ _ refl

pub returns-clause-blames : goal.returns-clause-blames
returns-clause-blames g c =
    subst (λ arm. Blames g.A.Arm.is_sure g.A.Arm.fault_count arm c.show.new.lane.arm (causes_told c.show.result)) c.home_in_view-rows.ensures.arm c.show.ensures.blames
