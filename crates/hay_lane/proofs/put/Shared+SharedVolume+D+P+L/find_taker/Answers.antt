use Rattle.std.proofs.Common.{◌≡◌, ◌+◌, [], ◌∷◌, refl, sym, subst, ◌∙◌, arith}
use Rattle.std.specs.List.{AllByRecursion, AllZip}
use Rattle.hay_reply.specs.Fits.{FitsRefused}
use Rattle.hay_legal.specs.Suiting.{Refuses}
use Rattle.hay_legal.proofs.Subject.Effects.{each_append}
use Rattle.hay_holdings.specs.Lines.{Tried}
use Rattle.hay_holdings.proofs.PutAnswers.{tries}
use Rattle.hay_lane.specs.Lanes.{sight}
use Rattle.hay_lane.specs.Puts.{TryTells}
use Rattle.hay_lane.proofs.Putting.{first_tries, one_more, takes_next, tries_wanted}
use Rattle.hay_lane.proofs.Suiting.{one_more_refuses}
use Rattle.hay_shared_volume.specs.Seats.{sight_of}
use Rattle.hay_lane.proofs.put.Shared+SharedVolume+D+P+L.find_taker.Goals as goal

pub loop-turn-init : goal.loop-turn-init
loop-turn-init g c = record {
  fits = subst (λ l. AllByRecursion FitsRefused l) (sym c.new-refused.ensures) tt;
  refuse = subst (λ l. AllZip (Refuses c.args.self.now.settings c.args.size) [] l) (sym c.new-refused.ensures) tt;
  seated = c.requires.seated;
  same = λ start of. of;
  unfused = λ none. none;
  arm = refl;
  tried =
      λ start d a of sees. subst (λ refused. Tried c.args.self.now.settings start c.args.self.now.drained.items c.args.tag c.args.pair c.args.size [] refused a
      (sight sight_of g.L.DirectoryCalls.sight g.A.Arm.fault_count c.args.lane.now))
      (sym c.new-refused.ensures) (tries c.args.self.now.settings start c.args.self.now.drained.items c.args.tag sees);
}

pub refusal-requires-clause-seated : goal.refusal-requires-clause-seated
refusal-requires-clause-seated g c = c.loop-turn.invariant.seated

pub returns-in-None-clause-same : goal.returns-in-None-clause-same
returns-in-None-clause-same g c start of = c.refusal.ensures.same start (c.loop-turn.invariant.same start of)

pub returns-in-None-clause-unfused : goal.returns-in-None-clause-unfused
returns-in-None-clause-unfused g c none = c.refusal.ensures.unfused (c.loop-turn.invariant.unfused none)

pub returns-in-None-clause-tried : goal.returns-in-None-clause-tried
returns-in-None-clause-tried g c start d a of sees =
    takes_next c.args.self.now.settings start c.args.self.now.drained.items c.args.tag c.loop-turn.turn (c.loop-turn.invariant.tried start d a of sees) c.tries-volume.result
    (c.tries-volume.ensures.is c.args.pair refl) c.loop-turn-test.true c.tries-volume.ensures.below
    (subst (λ r. TryTells c.args.self.now.settings start c.args.self.now.drained.items c.args.tag c.tries-volume.result c.args.size r
    (sight sight_of g.L.DirectoryCalls.sight g.A.Arm.fault_count c.loop-turn.lane) (sight sight_of g.L.DirectoryCalls.sight g.A.Arm.fault_count c.refusal.new.lane))
    c.in-None.is (c.refusal.ensures.tells start (c.loop-turn.invariant.same start of)))

pub returns-in-Err-clause-same : goal.returns-in-Err-clause-same
returns-in-Err-clause-same g c start of = c.refusal.ensures.same start (c.loop-turn.invariant.same start of)

pub returns-in-Err-clause-unfused : goal.returns-in-Err-clause-unfused
returns-in-Err-clause-unfused g c none = c.refusal.ensures.unfused (c.loop-turn.invariant.unfused none)

pub returns-in-Err-clause-tried : goal.returns-in-Err-clause-tried
returns-in-Err-clause-tried g c start d a of sees =
    tries_wanted c.args.self.now.settings start c.args.self.now.drained.items c.args.tag c.loop-turn.turn (c.loop-turn.invariant.tried start d a of sees)
    (subst (λ r. TryTells c.args.self.now.settings start c.args.self.now.drained.items c.args.tag c.tries-volume.result c.args.size r
    (sight sight_of g.L.DirectoryCalls.sight g.A.Arm.fault_count c.loop-turn.lane) (sight sight_of g.L.DirectoryCalls.sight g.A.Arm.fault_count c.refusal.new.lane))
    c.in-Some.is (c.refusal.ensures.tells start (c.loop-turn.invariant.same start of)))

pub loop-turn-preserved : goal.loop-turn-preserved
loop-turn-preserved g c = record {
  fits =
      subst (λ l. AllByRecursion FitsRefused l) (sym c.in-Ok.ensures.ok) (each_append FitsRefused c.loop-turn.refused (c.in-Some.refusal ∷ []) c.loop-turn.invariant.fits (c.in-Some.ensures.fits, tt));
  refuse = subst (λ l. AllZip (Refuses c.args.self.now.settings c.args.size) (first_tries c.args.self.now.settings c.args.pair (c.loop-turn.turn + 1)) l) (sym c.in-Ok.ensures.ok)
      (one_more_refuses (Refuses c.args.self.now.settings c.args.size) c.args.self.now.settings c.args.pair c.loop-turn.turn c.tries-volume.result c.loop-turn.refused c.in-Some.refusal
      (c.tries-volume.ensures.is c.args.pair refl) c.in-Some.ensures.refuses c.loop-turn.invariant.refuse);
  seated = c.refusal.ensures.seated;
  same = λ start of. c.refusal.ensures.same start (c.loop-turn.invariant.same start of);
  unfused = λ none. c.refusal.ensures.unfused (c.loop-turn.invariant.unfused none);
  arm = c.refusal.ensures.arm ∙ c.loop-turn.invariant.arm;
  tried = λ start d a of sees. subst (λ refused. Tried c.args.self.now.settings start c.args.self.now.drained.items c.args.tag c.args.pair c.args.size
      (first_tries c.args.self.now.settings c.args.pair (c.loop-turn.turn + 1)) refused a (sight sight_of g.L.DirectoryCalls.sight g.A.Arm.fault_count c.refusal.new.lane)) (sym c.in-Ok.ensures.ok)
      (one_more c.args.self.now.settings start c.args.self.now.drained.items c.args.tag c.loop-turn.turn (c.loop-turn.invariant.tried start d a of sees) c.tries-volume.result
      (c.tries-volume.ensures.is c.args.pair refl) c.tries-volume.ensures.below (subst (λ r.
      TryTells c.args.self.now.settings start c.args.self.now.drained.items c.args.tag c.tries-volume.result c.args.size r
      (sight sight_of g.L.DirectoryCalls.sight g.A.Arm.fault_count c.loop-turn.lane) (sight sight_of g.L.DirectoryCalls.sight g.A.Arm.fault_count c.refusal.new.lane))
      c.in-Some.is (c.refusal.ensures.tells start (c.loop-turn.invariant.same start of))));
}

pub returns-clause-seated : goal.returns-clause-seated
returns-clause-seated g c = c.loop-turn.invariant.seated

pub returns-clause-same : goal.returns-clause-same
returns-clause-same g c = c.loop-turn.invariant.same

pub returns-clause-unfused : goal.returns-clause-unfused
returns-clause-unfused g c = c.loop-turn.invariant.unfused

pub returns-clause-tried : goal.returns-clause-tried
returns-clause-tried g c start d a of sees =
    let all : c.loop-turn.turn ≡ c.args.self.now.settings.volumes = omega (arith, c.loop-turn-test.false, c.loop-turn.auto.turn-end) in
    subst (λ n. Tried c.args.self.now.settings start c.args.self.now.drained.items c.args.tag c.args.pair c.args.size (first_tries c.args.self.now.settings c.args.pair n)
    c.loop-turn.refused a (sight sight_of g.L.DirectoryCalls.sight g.A.Arm.fault_count c.loop-turn.lane)) all
    (c.loop-turn.invariant.tried start d a of sees)

pub returns-clause-refuse : goal.returns-clause-refuse
returns-clause-refuse g c refused is =
    let all : c.loop-turn.turn ≡ c.args.self.now.settings.volumes = omega (arith, c.loop-turn-test.false, c.loop-turn.auto.turn-end) in
    let same : c.loop-turn.refused ≡ refused = cc in
    subst (λ l. AllZip (Refuses c.args.self.now.settings c.args.size) (first_tries c.args.self.now.settings c.args.pair c.args.self.now.settings.volumes) l) same
    (subst (λ n. AllZip (Refuses c.args.self.now.settings c.args.size) (first_tries c.args.self.now.settings c.args.pair n) c.loop-turn.refused) all c.loop-turn.invariant.refuse)
