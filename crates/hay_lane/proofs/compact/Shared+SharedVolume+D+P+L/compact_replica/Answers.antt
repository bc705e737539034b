use Rattle.std.proofs.Common.{◌∙◌, refl, subst, sym}
use Rattle.hay_script.specs.declared.Command.TheVariants as asks
use Rattle.hay_holdings.specs.Lines.{IsAnswered}
use Rattle.hay_holdings.specs.Sights.{AtVolume}
use Rattle.hay_lane.specs.Lanes.{sight}
use Rattle.hay_shared_volume.specs.Tellings.{BeginTells, CompactionTells}
use Rattle.hay_lane.proofs.Compacted.{end_answered, never_lost, refusal_answered}
use Rattle.hay_shared_volume.specs.Seats.{sight_of}
use Rattle.hay_lane.proofs.Suiting.{ended_suits, unbegun_suits}
use Rattle.hay_lane.proofs.compact.Shared+SharedVolume+D+P+L.compact_replica.Goals as goal

pub loop-init : goal.loop-init
loop-init g c = record {
  seated = c.requires.seated;
  same = λ start of. of;
  unfused = λ none. none;
  arm = refl;
  first = λ start of. refl;
}

pub loop-preserved : goal.loop-preserved
loop-preserved g c = record {
  seated = c.compact_at-ended.ensures.seated;
  same = λ start of. c.compact_at-ended.ensures.same start (c.begin_at-answer.ensures.same start (c.loop.invariant.same start of));
  unfused = λ none. c.compact_at-ended.ensures.unfused (c.begin_at-answer.ensures.unfused (c.loop.invariant.unfused none));
  arm = c.compact_at-ended.ensures.arm ∙ (c.begin_at-answer.ensures.arm ∙ c.loop.invariant.arm);
  first = λ start of.
      absurd (never_lost c.args.self.now.settings start c.args.self.now.drained.items c.args.tag c.args.volume c.args.machine c.args.replica c.requires.there c.requires.volume c.requires.on
      (subst (λ answer. AtVolume c.args.volume (BeginTells (record { settings = c.args.self.now.settings; start = start; number = c.args.volume }) c.args.tag c.args.replica answer)
      (sight sight_of g.L.DirectoryCalls.sight g.A.Arm.fault_count c.loop.lane) (sight sight_of g.L.DirectoryCalls.sight g.A.Arm.fault_count c.begin_at-answer.new.lane))
      c.in-Begun.is (c.begin_at-answer.ensures.tells start (c.loop.invariant.same start of)))
      (subst (λ ended. AtVolume c.args.volume (CompactionTells (record { settings = c.args.self.now.settings; start = start; number = c.args.volume }) c.args.tag c.args.replica
      ended) (sight sight_of g.L.DirectoryCalls.sight g.A.Arm.fault_count c.begin_at-answer.new.lane) (sight sight_of g.L.DirectoryCalls.sight g.A.Arm.fault_count c.compact_at-ended.new.lane))
      c.in-Idle.is (c.compact_at-ended.ensures.tells start (c.begin_at-answer.ensures.same start (c.loop.invariant.same start of)))));
}

-- IT WAS NOT BEGUN

pub returns-in_default-clause-same : goal.returns-in_default-clause-same
returns-in_default-clause-same g c start of = c.begin_at-answer.ensures.same start (c.loop.invariant.same start of)

pub returns-in_default-clause-unfused : goal.returns-in_default-clause-unfused
returns-in_default-clause-unfused g c none = c.begin_at-answer.ensures.unfused (c.loop.invariant.unfused none)

pub returns-in_default-clause-arm : goal.returns-in_default-clause-arm
returns-in_default-clause-arm g c = c.begin_at-answer.ensures.arm ∙ c.loop.invariant.arm

pub returns-in_default-clause-answered : goal.returns-in_default-clause-answered
returns-in_default-clause-answered g c start of =
    subst (λ l. IsAnswered c.args.self.now.settings start c.args.self.now.drained.items c.args.tag (asks.Compact c.args.volume c.args.machine) c.begin_reply.result
    (sight sight_of g.L.DirectoryCalls.sight g.A.Arm.fault_count l) (sight sight_of g.L.DirectoryCalls.sight g.A.Arm.fault_count c.begin_at-answer.new.lane)) (c.loop.invariant.first start of)
    (refusal_answered c.args.self.now.settings start c.args.self.now.drained.items c.args.tag c.args.volume c.args.machine c.args.replica c.requires.there c.requires.volume
    c.begin_at-answer.result c.begin_reply.result c.in_default.not-Begun (c.begin_at-answer.ensures.tells start (c.loop.invariant.same start of)) c.begin_reply.ensures.is)

pub returns-in_default-clause-suits : goal.returns-in_default-clause-suits
returns-in_default-clause-suits g c =
    unbegun_suits c.args.self.now.settings c.args.volume c.requires.seated.fewer c.requires.volume c.args.machine c.args.replica (sym c.requires.there) c.args.tag.line
    c.begin_at-answer.result c.begin_reply.result
    c.in_default.not-Begun c.begin_at-answer.ensures.names c.begin_reply.ensures.is

-- IT CAME TO ITS END

pub returns-in_default-ended-clause-same : goal.returns-in_default-ended-clause-same
returns-in_default-ended-clause-same g c start of = c.compact_at-ended.ensures.same start (c.begin_at-answer.ensures.same start (c.loop.invariant.same start of))

pub returns-in_default-ended-clause-unfused : goal.returns-in_default-ended-clause-unfused
returns-in_default-ended-clause-unfused g c none = c.compact_at-ended.ensures.unfused (c.begin_at-answer.ensures.unfused (c.loop.invariant.unfused none))

pub returns-in_default-ended-clause-arm : goal.returns-in_default-ended-clause-arm
returns-in_default-ended-clause-arm g c = c.compact_at-ended.ensures.arm ∙ (c.begin_at-answer.ensures.arm ∙ c.loop.invariant.arm)

pub returns-in_default-ended-clause-answered : goal.returns-in_default-ended-clause-answered
returns-in_default-ended-clause-answered g c start of =
    subst (λ l. IsAnswered c.args.self.now.settings start c.args.self.now.drained.items c.args.tag (asks.Compact c.args.volume c.args.machine) c.compaction_reply.result
    (sight sight_of g.L.DirectoryCalls.sight g.A.Arm.fault_count l) (sight sight_of g.L.DirectoryCalls.sight g.A.Arm.fault_count c.compact_at-ended.new.lane)) (c.loop.invariant.first start of)
    (end_answered c.args.self.now.settings start c.args.self.now.drained.items c.args.tag c.args.volume c.args.machine c.args.replica c.requires.there c.requires.volume c.requires.on
    (subst (λ answer. AtVolume c.args.volume (BeginTells (record { settings = c.args.self.now.settings; start = start; number = c.args.volume }) c.args.tag c.args.replica answer)
    (sight sight_of g.L.DirectoryCalls.sight g.A.Arm.fault_count c.loop.lane) (sight sight_of g.L.DirectoryCalls.sight g.A.Arm.fault_count c.begin_at-answer.new.lane))
    c.in-Begun.is (c.begin_at-answer.ensures.tells start (c.loop.invariant.same start of)))
    c.compact_at-ended.result c.compaction_reply.result (c.compact_at-ended.ensures.tells start (c.begin_at-answer.ensures.same start (c.loop.invariant.same start of))) c.compaction_reply.ensures.is)

pub returns-in_default-ended-clause-suits : goal.returns-in_default-ended-clause-suits
returns-in_default-ended-clause-suits g c =
    ended_suits c.args.self.now.settings c.args.volume c.requires.seated.fewer c.requires.volume c.args.machine c.args.replica (sym c.requires.there) c.args.tag.line
    c.compact_at-ended.result c.compaction_reply.result
    c.in_default-ended.not-Idle c.compact_at-ended.ensures.names c.compaction_reply.ensures.is
