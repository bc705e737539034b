use Rattle.std.proofs.Common.{subst}
use Rattle.hay_script.specs.declared.Command.{Command}
use Rattle.hay_script.specs.declared.Command.TheVariants as asks
use Rattle.hay_legal.specs.declared.turn.Item.TheVariants as items
use Rattle.hay_history.specs.Commands.{MayStandInLane}
use Rattle.hay_lane.proofs.Arms.{later_same}
use Rattle.hay_lane.proofs.Blaming.{blames_none, spared}
use Rattle.hay_lane.proofs.dispatch.Shared+SharedVolume+D+P+L.answer.Goals as goal

pub returns-in-Put-clause-arm : goal.returns-in-Put-clause-arm
returns-in-Put-clause-arm g c = later_same c.put.ensures.arm

pub returns-in-Del-clause-arm : goal.returns-in-Del-clause-arm
returns-in-Del-clause-arm g c = later_same c.delete.ensures.arm

pub returns-in-Url-clause-arm : goal.returns-in-Url-clause-arm
returns-in-Url-clause-arm g c = later_same c.url.ensures.arm

pub returns-in-Flush-clause-arm : goal.returns-in-Flush-clause-arm
returns-in-Flush-clause-arm g c = later_same c.flush.ensures.arm

pub returns-in-Compact-clause-arm : goal.returns-in-Compact-clause-arm
returns-in-Compact-clause-arm g c = later_same c.compact.ensures.arm

pub returns-in-Begin-clause-arm : goal.returns-in-Begin-clause-arm
returns-in-Begin-clause-arm g c = later_same c.begin.ensures.arm

pub returns-in-Step-clause-arm : goal.returns-in-Step-clause-arm
returns-in-Step-clause-arm g c = later_same c.step.ensures.arm

pub returns-in-Finish-clause-arm : goal.returns-in-Finish-clause-arm
returns-in-Finish-clause-arm g c = later_same c.finish.ensures.arm

pub returns-in-Drain-clause-arm : goal.returns-in-Drain-clause-arm
returns-in-Drain-clause-arm g c = later_same c.drain.ensures.arm

pub returns-in-Undrain-clause-arm : goal.returns-in-Undrain-clause-arm
returns-in-Undrain-clause-arm g c = later_same c.undrain.ensures.arm

pub returns-in-Fuse-clause-arm : goal.returns-in-Fuse-clause-arm
returns-in-Fuse-clause-arm g c = later_same c.fuse.ensures.arm

pub returns-in-FuseDir-clause-arm : goal.returns-in-FuseDir-clause-arm
returns-in-FuseDir-clause-arm g c = later_same c.fuse_dir.ensures.arm

pub returns-in-Put-clause-blames : goal.returns-in-Put-clause-blames
returns-in-Put-clause-blames g c =
    blames_none g.A.Arm.is_sure g.A.Arm.fault_count _ _ _ (spared c.args.self.now.settings c.put.result c.args.tag.line (asks.Put c.in-Put.pair c.as_slice.result.now) tt c.put.ensures.suits)

pub returns-in-Del-clause-blames : goal.returns-in-Del-clause-blames
returns-in-Del-clause-blames g c =
    blames_none g.A.Arm.is_sure g.A.Arm.fault_count _ _ _ (spared c.args.self.now.settings c.delete.result c.args.tag.line (asks.Del c.in-Del.pair) tt c.delete.ensures.suits)

pub returns-in-Url-clause-blames : goal.returns-in-Url-clause-blames
returns-in-Url-clause-blames g c = blames_none g.A.Arm.is_sure g.A.Arm.fault_count _ _ _ (spared c.args.self.now.settings c.url.result c.args.tag.line (asks.Url c.in-Url.pair) tt c.url.ensures.suits)

pub returns-in-Flush-clause-blames : goal.returns-in-Flush-clause-blames
returns-in-Flush-clause-blames g c =
    blames_none g.A.Arm.is_sure g.A.Arm.fault_count _ _ _ (spared c.args.self.now.settings c.flush.result c.args.tag.line (asks.Flush c.in-Flush.volume c.in-Flush.machine) tt c.flush.ensures.suits)

pub returns-in-Compact-clause-blames : goal.returns-in-Compact-clause-blames
returns-in-Compact-clause-blames g c =
    blames_none g.A.Arm.is_sure g.A.Arm.fault_count _ _ _ (spared c.args.self.now.settings c.compact.result c.args.tag.line (asks.Compact c.in-Compact.volume c.in-Compact.machine)
    tt c.compact.ensures.suits)

pub returns-in-Begin-clause-blames : goal.returns-in-Begin-clause-blames
returns-in-Begin-clause-blames g c =
    blames_none g.A.Arm.is_sure g.A.Arm.fault_count _ _ _ (spared c.args.self.now.settings c.begin.result c.args.tag.line (asks.Begin c.in-Begin.volume c.in-Begin.machine) tt c.begin.ensures.suits)

pub returns-in-Step-clause-blames : goal.returns-in-Step-clause-blames
returns-in-Step-clause-blames g c =
    blames_none g.A.Arm.is_sure g.A.Arm.fault_count _ _ _ (spared c.args.self.now.settings c.step.result c.args.tag.line
    (asks.Step c.in-Step.volume c.in-Step.machine c.in-Step.cells) tt c.step.ensures.suits)

pub returns-in-Finish-clause-blames : goal.returns-in-Finish-clause-blames
returns-in-Finish-clause-blames g c =
    blames_none g.A.Arm.is_sure g.A.Arm.fault_count _ _ _ (spared c.args.self.now.settings c.finish.result c.args.tag.line (asks.Finish c.in-Finish.volume c.in-Finish.machine) tt
    c.finish.ensures.suits)

pub returns-in-Drain-clause-blames : goal.returns-in-Drain-clause-blames
returns-in-Drain-clause-blames g c =
    blames_none g.A.Arm.is_sure g.A.Arm.fault_count _ _ _ (spared c.args.self.now.settings c.drain.result c.args.tag.line (asks.Drain c.in-Drain.machine) tt c.drain.ensures.suits)

pub returns-in-Undrain-clause-blames : goal.returns-in-Undrain-clause-blames
returns-in-Undrain-clause-blames g c =
    blames_none g.A.Arm.is_sure g.A.Arm.fault_count _ _ _ (spared c.args.self.now.settings c.undrain.result c.args.tag.line (asks.Undrain c.in-Undrain.machine) tt c.undrain.ensures.suits)

pub returns-in-Fuse-clause-blames : goal.returns-in-Fuse-clause-blames
returns-in-Fuse-clause-blames g c =
    blames_none g.A.Arm.is_sure g.A.Arm.fault_count _ _ _ (spared c.args.self.now.settings c.fuse.result c.args.tag.line
    (asks.Fuse c.in-Fuse.volume c.in-Fuse.machine c.in-Fuse.calls) tt c.fuse.ensures.suits)

pub returns-in-FuseDir-clause-blames : goal.returns-in-FuseDir-clause-blames
returns-in-FuseDir-clause-blames g c =
    blames_none g.A.Arm.is_sure g.A.Arm.fault_count _ _ _ (spared c.args.self.now.settings c.fuse_dir.result c.args.tag.line (asks.FuseDir c.in-FuseDir.calls) tt c.fuse_dir.ensures.suits)

pub returns-in-Put-clause-unfused : goal.returns-in-Put-clause-unfused
returns-in-Put-clause-unfused g c = λ may. c.put.ensures.unfused

pub returns-in-Read-clause-unfused : goal.returns-in-Read-clause-unfused
returns-in-Read-clause-unfused g c = λ may. c.read.ensures.unfused

pub returns-in-Get-clause-unfused : goal.returns-in-Get-clause-unfused
returns-in-Get-clause-unfused g c = λ may. c.get.ensures.unfused

pub returns-in-Del-clause-unfused : goal.returns-in-Del-clause-unfused
returns-in-Del-clause-unfused g c = λ may. c.delete.ensures.unfused

pub returns-in-Url-clause-unfused : goal.returns-in-Url-clause-unfused
returns-in-Url-clause-unfused g c = λ may. c.url.ensures.unfused

pub returns-in-Flush-clause-unfused : goal.returns-in-Flush-clause-unfused
returns-in-Flush-clause-unfused g c = λ may. c.flush.ensures.unfused

pub returns-in-Compact-clause-unfused : goal.returns-in-Compact-clause-unfused
returns-in-Compact-clause-unfused g c = λ may. c.compact.ensures.unfused

pub returns-in-Begin-clause-unfused : goal.returns-in-Begin-clause-unfused
returns-in-Begin-clause-unfused g c = λ may none. absurd (subst (λ (asked : Command). MayStandInLane (items.Command asked)) c.in-Begin.is may)

pub returns-in-Step-clause-unfused : goal.returns-in-Step-clause-unfused
returns-in-Step-clause-unfused g c = λ may none. absurd (subst (λ (asked : Command). MayStandInLane (items.Command asked)) c.in-Step.is may)

pub returns-in-Finish-clause-unfused : goal.returns-in-Finish-clause-unfused
returns-in-Finish-clause-unfused g c = λ may none. absurd (subst (λ (asked : Command). MayStandInLane (items.Command asked)) c.in-Finish.is may)

pub returns-in-Drain-clause-unfused : goal.returns-in-Drain-clause-unfused
returns-in-Drain-clause-unfused g c = λ may none. absurd (subst (λ (asked : Command). MayStandInLane (items.Command asked)) c.in-Drain.is may)

pub returns-in-Undrain-clause-unfused : goal.returns-in-Undrain-clause-unfused
returns-in-Undrain-clause-unfused g c = λ may none. absurd (subst (λ (asked : Command). MayStandInLane (items.Command asked)) c.in-Undrain.is may)

pub returns-in-Fuse-clause-unfused : goal.returns-in-Fuse-clause-unfused
returns-in-Fuse-clause-unfused g c = λ may none. absurd (subst (λ (asked : Command). MayStandInLane (items.Command asked)) c.in-Fuse.is may)

pub returns-in-FuseDir-clause-unfused : goal.returns-in-FuseDir-clause-unfused
returns-in-FuseDir-clause-unfused g c = λ may none. absurd (subst (λ (asked : Command). MayStandInLane (items.Command asked)) c.in-FuseDir.is may)
