use Rattle.std.proofs.Common.{◌≡◌, ◌<◌, inl, inr, length, sym, subst, arith}
use Rattle.std.proofs.lemmas.Bool.{cases_lt}
use Rattle.hay_physical.specs.OpenCopies.{Copy, HasCapacity}
use Rattle.hay_logical.specs.Fits.{At}
use Rattle.hay_logical.specs.ReplicaCalls.{RoomFor}
use Rattle.hay_logical.proofs.Calls.{fault_is, not_both_ways, room_fits}
use Rattle.hay_logical.proofs.Lists.{at_below, at_read, at_same}
use Rattle.hay_logical.proofs.replicas.room_in.Goals as goal

pub returns-in-Err-clause-lacks : goal.returns-in-Err-clause-lacks
returns-in-Err-clause-lacks g c =
    let here : Copy g.row.D.Denot = c.index-replicas-j.result in
    let within : c.loop-j.j < length c.args.replicas.now = omega arith in
    let there : At c.args.replicas.now c.loop-j.j here = subst (λ x. At c.args.replicas.now c.loop-j.j x) (sym c.index-replicas-j.is) (at_read c.args.replicas.now c.loop-j.j here within) in
    record {
      replica = here;
      there = there;
      below = λ j r h e. (c.loop-j.invariant j r h e).0;
      full = c.in-Err.ensures.fits;
      cause = fault_is c.room.result c.in-Err.fault _ c.in-Err.is (c.room.ensures.full c.in-Err.ensures.fits);
    }

pub loop-j-preserved : goal.loop-j-preserved
loop-j-preserved g c = λ i r h e.
    let here : Copy g.row.D.Denot = c.index-replicas-j.result in
    let within : c.loop-j.j < length c.args.replicas.now = omega arith in
    let there : At c.args.replicas.now c.loop-j.j here = subst (λ x. At c.args.replicas.now c.loop-j.j x) (sym c.index-replicas-j.is) (at_read c.args.replicas.now c.loop-j.j here within) in
    elim (cases_lt i c.loop-j.j) [
      | inl less ↦ c.loop-j.invariant i r less e
      | inr most ↦
          let at_j : i ≡ c.loop-j.j = omega (arith, h, most) in
          let r_is : r ≡ here = at_same c.args.replicas.now c.loop-j.j r here (subst (λ k. At c.args.replicas.now k r) at_j e) there in
          subst (λ x. RoomFor c.args.size x × HasCapacity x) (sym r_is) (
            room_fits c.args.size here c.room.result c.room.ensures.full
                (λ f e. not_both_ways c.room.result f c.in-Ok.is e),
            c.room.ensures.capacity,
          )
    ]

pub returns-clause-fits : goal.returns-clause-fits
returns-clause-fits g c = λ j r e. let h = at_below c.args.replicas.now j r e in let less : j < c.loop-j.j = omega arith in (c.loop-j.invariant j r less e).0

pub returns-clause-capacities : goal.returns-clause-capacities
returns-clause-capacities g c = λ j r e. let h = at_below c.args.replicas.now j r e in let less : j < c.loop-j.j = omega arith in (c.loop-j.invariant j r less e).1

pub returns-in-Err-clause-lacks_capacities : goal.returns-in-Err-clause-lacks_capacities
returns-in-Err-clause-lacks_capacities g c = λ i r low e.
    let here : Copy g.row.D.Denot = c.index-replicas-j.result in
    let within : c.loop-j.j < length c.args.replicas.now = omega arith in
    let there : At c.args.replicas.now c.loop-j.j here = subst (λ x. At c.args.replicas.now c.loop-j.j x) (sym c.index-replicas-j.is) (at_read c.args.replicas.now c.loop-j.j here within) in
    elim (cases_lt i c.loop-j.j) [
      | inl less ↦ (c.loop-j.invariant i r less e).1
      | inr most ↦
          let at_j : i ≡ c.loop-j.j = omega (arith, low, most) in
          let r_is : r ≡ here = at_same c.args.replicas.now c.loop-j.j r here (subst (λ k. At c.args.replicas.now k r) at_j e) there in
          subst HasCapacity (sym r_is) c.room.ensures.capacity
    ]
