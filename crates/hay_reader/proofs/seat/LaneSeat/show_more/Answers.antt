use Rattle.std.proofs.Common.{ℕ, ◌+◌, ◌%◌, ◌<◌, length, ap, ◌∙◌, arith}
use Rattle.std.proofs.lemmas.List.{length-append}
use Rattle.hay_reader.specs.declared.causes.PassedReplica.{PassedReplica}
use Rattle.hay_reader.proofs.Passing.{has_bytes, most_on, next_replica, passes_damaged, places_more, shows_no_arm, shows_place}
use Rattle.hay_reader.proofs.seat.LaneSeat.show_more.Goals as goal

pub returns-in-Ok-clause-most : goal.returns-in-Ok-clause-most
returns-in-Ok-clause-most g c = most_on _ _ _ c.loop-step.invariant.most c.try_replica.ensures.most

pub returns-in-Ok-clause-reads : goal.returns-in-Ok-clause-reads
returns-in-Ok-clause-reads g c =
    let fewer : length c.loop-step.causes < length c.args.row.now = omega (arith, c.len-step-end.ensures.is, c.loop-step.invariant.long) in
    let next = next_replica c.args.start c.loop-step.step (length c.loop-step.causes) c.len.result (length c.args.row.now) c.loop-step.invariant.long c.len.ensures.is in
    rw c.reply_of.ensures
    (shows_place _ _ _ _ _ _ c.args.start c.args.row.now c.args.cookie _ c.args.passed c.loop-step.causes _ c.in-Ok.shown c.loop-step.invariant.passed fewer next
    c.try_replica.ensures.later c.try_replica.ensures.most (rw c.place.ensures at c.in-Ok.ensures.gives))

pub returns-in-Ok-clause-sure : goal.returns-in-Ok-clause-sure
returns-in-Ok-clause-sure g c = λ was.
    rw c.reply_of.ensures
    (shows_no_arm _ c.args.passed c.loop-step.causes c.in-Ok.shown (passes_damaged _ _ _ _ c.args.start c.args.row.now c.args.cookie c.args.passed c.loop-step.causes was c.loop-step.invariant.passed))

pub returns-in-Ok-clause-stays_sure : goal.returns-in-Ok-clause-stays_sure
returns-in-Ok-clause-stays_sure g c = λ was.
    let before = c.loop-step.invariant.stays_sure was in
    let now = c.try_replica.ensures.stays_sure before.0 in
    (now.0, now.1 ∙ before.1)

pub returns-in-Ok-clause-bytes : goal.returns-in-Ok-clause-bytes
returns-in-Ok-clause-bytes g c = rw c.reply_of.ensures (has_bytes _ c.loop-step.causes _ c.in-Ok.shown c.in-Ok.ensures.bytes)

pub loop-step-preserved : goal.loop-step-preserved
loop-step-preserved g c =
    let next = next_replica c.args.start c.loop-step.step (length c.loop-step.causes) c.len.result (length c.args.row.now) c.loop-step.invariant.long c.len.ensures.is in
    let passed : PassedReplica = record { replica = (c.args.start + c.loop-step.step) % c.len.result; cause = c.in-Err.cause } in
    rw c.push.ensures
    (record {
      passed =
          places_more _ _ _ _ _ _ c.args.start c.args.row.now c.args.cookie _ c.args.passed c.loop-step.causes passed c.loop-step.invariant.passed next c.loop-step.invariant.later
          c.try_replica.ensures.later c.try_replica.ensures.most c.in-Err.ensures.cause
          (λ was. (c.loop-step.invariant.stays_sure was).0) (rw c.place.ensures at c.in-Err.ensures.gives);
      long = length-append c.loop-step.causes _ ∙ ap (λ (tries : ℕ). tries + 1) c.loop-step.invariant.long;
      within = omega (arith, c.len-step-end.ensures.is);
      later = omega (arith, c.loop-step.invariant.later, c.try_replica.ensures.later);
      most = most_on _ _ _ c.loop-step.invariant.most c.try_replica.ensures.most;
      stays_sure = λ was.
          let before = c.loop-step.invariant.stays_sure was in
          let now = c.try_replica.ensures.stays_sure before.0 in
          (now.0, now.1 ∙ before.1);
      empty = c.in-Err.ensures.bytes;
      room = omega (arith, c.loop-step.invariant.room, c.try_replica.ensures.room);
    })

pub returns-clause-reads : goal.returns-clause-reads
returns-clause-reads g c = (c.loop-step.invariant.passed, omega (arith, c.len-step-end.ensures.is, c.loop-step.invariant.long, c.loop-step.invariant.within))

pub returns-clause-sure : goal.returns-clause-sure
returns-clause-sure g c = λ was. passes_damaged _ _ _ _ c.args.start c.args.row.now c.args.cookie c.args.passed c.loop-step.causes was c.loop-step.invariant.passed
