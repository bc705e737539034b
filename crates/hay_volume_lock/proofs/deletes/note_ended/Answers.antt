use Rattle.std.proofs.Common.{◌<◌, length, sym, ap, ◌∙◌, arith}
use Rattle.hay_logical.proofs.Lists.{at_there}
use Rattle.hay_volume_lock.specs.Acts.{counts}
use Rattle.hay_volume_lock.specs.Ended.{ended_at}
use Rattle.hay_volume_lock.proofs.Counting.{count_there}
use Rattle.hay_volume_lock.proofs.Deleting.{noted_not, noted_over}
use Rattle.hay_volume_lock.proofs.deletes.note_ended.Goals.{else-over-at, then-over-at}
use Rattle.hay_volume_lock.proofs.deletes.note_ended.Goals as goal

pub loop-replica-preserved : goal.loop-replica-preserved
loop-replica-preserved g c =
    let faults = counts g.D.Disk.fault_count c.args.logical.now.replicas in
    let there =
    at_there c.args.logical.now.replicas c.loop-replica.replica (let less : c.loop-replica.replica
    < length c.args.logical.now.replicas = omega (arith, c.loop-replica-test.true, c.requires.all) in less) in
    elim c.if-over-at.branch [
      | then-over-at w ↦
          let more = noted_over c.args.over.now c.args.begun.now faults c.args.ended.now c.loop-replica.ended w.set.new.self c.loop-replica.replica w.faults.result
          c.loop-replica.invariant.done c.loop-replica.invariant.rest w.if-over-at.true (count_there g.D.Disk.fault_count c.args.logical.now.replicas c.loop-replica.replica there.0
          there.1 ∙ sym (w.faults.ensures there.0 there.1))
          w.set.ensures.set w.set.ensures.others in
          record {
            done = λ j lane less few. ap (λ e. ended_at e j lane) w.ended-is ∙ more.0 j lane less few;
            rest = λ j lane past. ap (λ e. ended_at e j lane) w.ended-is ∙ more.1 j lane past;
          }
      | else-over-at w ↦
          let more = noted_not c.args.over.now c.args.begun.now faults c.args.ended.now c.loop-replica.ended c.loop-replica.ended c.loop-replica.replica 0
          c.loop-replica.invariant.done c.loop-replica.invariant.rest w.if-over-at.false in
          record {
            done = λ j lane less few. ap (λ e. ended_at e j lane) w.ended-is ∙ more.0 j lane less few;
            rest = λ j lane past. ap (λ e. ended_at e j lane) w.ended-is ∙ more.1 j lane past;
          }
    ]
