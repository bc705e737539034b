use Rattle.std.proofs.Common.{◌<◌, ◌+◌, refl, sym, subst, arith}
use Rattle.hay_batch.specs.Replicas.{At}
use Rattle.hay_batch.proofs.Lists.{at_below, at_read}
use Rattle.hay_batch.proofs.replicas.first_full.Goals.{then-volume-need-via-then-volume-need, then-volume-need-via-else-volume-need+then-volume-need-2}
use Rattle.hay_batch.proofs.replicas.first_full.Goals as goal

pub returns-then-volume-need-clause-full : goal.returns-then-volume-need-clause-full
returns-then-volume-need-clause-full g c =
    let replica = c.index-replicas-j.result in
    let lacks : replica.volume.capacity < replica.volume.end + c.args.need + 8 = elim c.then-volume-need.branch [
      | then-volume-need-via-then-volume-need w ↦ omega arith
      | then-volume-need-via-else-volume-need+then-volume-need-2 w ↦ omega arith
    ] in (
      replica,
      record {
        there = subst (λ x. At c.args.replicas.now c.loop-j.j x) (sym c.index-replicas-j.is) (at_read c.args.replicas.now c.loop-j.j replica c.loop-j-test.true);
        lacks = lacks;
        below = c.loop-j.invariant;
      },
      refl,
    )

pub returns-clause-room : goal.returns-clause-room
returns-clause-room g c = λ j r e.
    let below = at_below c.args.replicas.now j r e in
    c.loop-j.invariant j r (omega (arith, below, c.loop-j-test.false)) e
