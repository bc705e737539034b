use Rattle.std.proofs.Common.{◌<◌, ◌+◌, [], ◌∷◌, None, length, ap, ◌∙◌, arith, length-append}
use Rattle.std.specs.Prelude.{slice_index_or}
use Rattle.hay_logical.specs.Answers.{has_ended}
use Rattle.hay_logical.proofs.Lists.{at_or, at_there}
use Rattle.hay_physical.specs.OpenCopies.{goal_of}
use Rattle.hay_volume_lock.specs.Deletes.{over_since}
use Rattle.hay_volume_lock.proofs.Counting.{take_whole}
use Rattle.hay_volume_lock.proofs.Deleting.{next_taken, over_long, over_next}
use Rattle.hay_volume_lock.proofs.deletes.over_of.Goals as goal

pub loop-replica-preserved : goal.loop-replica-preserved
loop-replica-preserved g c =
    let runs = c.args.runs.now.items in
    let replicas = c.args.logical.now.replicas in
    let j = c.loop-replica.replica in
    let run = at_there runs j (let less : j < length runs = omega (arith, c.loop-replica-test.true, c.requires.runs) in less) in
    let there = at_there replicas j (let less : j < length replicas = omega (arith, c.loop-replica-test.true, c.requires.all) in less) in record {
      taken =
          next_taken (over_since runs replicas) c.loop-replica.over.items c.push.new.self.items j c.is_over.result (has_ended run.0 (goal_of there.0))
          (over_next runs replicas j run.0 there.0 run.1 there.1)
          (c.is_over.ensures ∙ ap (λ o. has_ended o c.standing.result) (ap (λ l. slice_index_or l j None) c.as_slice.ensures.value ∙ at_or runs j run.0 None run.1)
          ∙ ap (λ o. has_ended run.0 o) (c.standing.ensures.is there.0 there.1)) c.loop-replica.invariant.taken c.push.ensures.items;
      count = ap length c.push.ensures.items ∙ length-append c.loop-replica.over.items (c.is_over.result ∷ []) ∙ ap (λ n. n + 1) c.loop-replica.invariant.count;
    }

pub returns : goal.returns
returns g c =
    let runs = c.args.runs.now.items in
    let replicas = c.args.logical.now.replicas in
    let long = over_long runs replicas c.args.replicas c.requires.runs c.requires.all in
    c.loop-replica.invariant.taken ∙ take_whole (over_since runs replicas) c.loop-replica.replica (omega (arith, long, c.loop-replica-test.false))
