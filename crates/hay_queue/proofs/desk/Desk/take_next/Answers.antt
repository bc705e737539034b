use Rattle.std.proofs.Common.{ap, sym, subst, ◌∙◌, arith}
use Rattle.crossbeam_channel.specs.Claims.{view}
use Rattle.hay_queue.specs.Streams.{name_of, TakesNext}
use Rattle.hay_queue.proofs.Counts.{unended_job, unended_end}
use Rattle.hay_queue.proofs.desk.Desk.take_next.Goals as goal

pub invariant_of-worker : goal.invariant_of-worker
invariant_of-worker g c = let pop = c.pop-from.ensures in let old = (view c.worker.inside.pass).heard in let new = (view c.pop-from.new.pass).heard in let m = c.pop-from.result in
    let taken = subst (λ job. TakesNext old new m.from m.place (name_of g.J.Job.named job)) c.in-Some.is pop.taken.0 in (
      record { rests = pop.own.1; takes = ap (λ v. v.takes) pop.taken.1 ∙ c.worker.invariant.0.takes },
      c.worker.invariant.1 ∙ sym (unended_job old new m.from m.place (g.J.Job.named c.in-Some.job) taken),
    )

pub overflow_sub-worker : goal.overflow_sub-worker
overflow_sub-worker g c = let old = (view c.worker.inside.pass).heard in let new = (view c.pop-from.new.pass).heard in let m = c.pop-from.result in
    let taken = subst (λ job. TakesNext old new m.from m.place (name_of g.J.Job.named job)) c.in-None.is c.pop-from.ensures.taken.0 in
    let one = unended_end old new m.from m.place taken in let count = c.worker.invariant.1 in omega arith

pub invariant_of-worker-in-None : goal.invariant_of-worker-in-None
invariant_of-worker-in-None g c = let pop = c.pop-from.ensures in let old = (view c.worker.inside.pass).heard in let new = (view c.pop-from.new.pass).heard in let m = c.pop-from.result in
    let taken = subst (λ job. TakesNext old new m.from m.place (name_of g.J.Job.named job)) c.in-None.is pop.taken.0 in
    let one = unended_end old new m.from m.place taken in let count = c.worker.invariant.1 in (
      record { rests = pop.own.1; takes = ap (λ v. v.takes) pop.taken.1 ∙ c.worker.invariant.0.takes },
      omega arith,
    )
