use Rattle.std.proofs.Common.{◌<◌, ◌+◌, ◌++◌, List, drop, length, ap, ◌∙◌, arith}
use Rattle.hay_core.specs.Transitions.{replies_to}
use Rattle.hay_core.specs.declared.machine.CoreReply.{CoreReply}
use Rattle.hay_core.proofs.RunLaws.{going_on, replied, so_far, on_err}
use Rattle.hay_core.proofs.laws.all_steps.Goals as goal

pub loop-event-preserved : goal.loop-event-preserved
loop-event-preserved c =
    let es = c.args.events.now in
    let i = c.loop-event.event-index in
    let e = c.event-item.result in
    let h : i < length es = omega arith in
    let made = c.in_ok-reply.ensures.core in
    record {
      core_left = going_on c.args.core.now c.loop-event.core c.step.new.self es i e h c.event-item.is made c.loop-event.invariant.core_left;
      replies_left =
          ap (λ (rs : List CoreReply). rs ++ replies_to c.step.new.self (drop (i + 1) es)) c.in_ok-push.ensures.items
          ∙ replied c.args.core.now c.loop-event.core c.step.new.self es i e c.loop-event.replies.items c.in_ok-reply.reply h c.event-item.is made c.in_ok-reply.ensures.reply
          c.loop-event.invariant.replies_left;
      core_so_far = so_far c.args.core.now c.loop-event.core c.step.new.self es i e h c.event-item.is made c.loop-event.invariant.core_so_far;
    }

pub returns-in_err-push-clause-err : goal.returns-in_err-push-clause-err
returns-in_err-push-clause-err c =
    let es = c.args.events.now in
    let i = c.loop-event.event-index in
    let h : i < length es = omega arith in
    on_err c.from_residual-in_err-push.result (
      i + 1,
      so_far c.args.core.now c.loop-event.core c.step.new.self es i c.event-item.result h c.event-item.is c.in_ok-reply.ensures.core
          c.loop-event.invariant.core_so_far,
    )
