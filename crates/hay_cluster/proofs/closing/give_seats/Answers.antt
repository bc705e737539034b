use Rattle.std.proofs.Common.{◌≡◌, ℕ, length, refl, subst, ◌∙◌, arith}
use Rattle.std.proofs.lemmas.List.{nil_from_length}
use Rattle.hay_disk.specs.Disk.{KeepsOthers}
use Rattle.hay_mount.specs.Mounts.{IsGivenArm}
use Rattle.hay_mount.proofs.Giving.{gives-none, gives-one, gives-all}
use Rattle.hay_cluster.proofs.closing.give_seats.Goals as goal

pub loop-seat-init : goal.loop-seat-init
loop-seat-init g c = record { gives = gives-none _ _ _; others = refl; counted = refl }

pub loop-seat-preserved : goal.loop-seat-preserved
loop-seat-preserved g c =
    let P = IsGivenArm g.H.Arm.Arm.fault_count g.H.Arm.Arm.is_sure in
    let held = g.H.Shelf.arms c.give_arm.new.self in
    let first : P (held c.len.result) c.into_arm.result = record { fault_count = c.give_arm.ensures.faults; is_sure = c.give_arm.ensures.sure; back = c.give_arm.ensures.back } in
    let given : P (held c.len.result) c.in-Some.seat = subst (λ a. P (held c.len.result) a) c.into_arm.ensures first in
    let at : c.len.result ≡ length c.pop.new.self.items = c.len.ensures ∙ c.pop.new.self.ok.0 in
    record {
      gives = gives-one P c.args.seats.items c.loop-seat.seats.items c.pop.new.self.items c.in-Some.seat (g.H.Shelf.arms c.args.shelf.now) (g.H.Shelf.arms c.loop-seat.shelf) held
          (c.in-Some.ensures).items c.loop-seat.invariant.gives
          (let Q : ℕ → Type 0 = λ n. P (held n) c.in-Some.seat in subst Q at given)
          (let Q : ℕ → Type 0 = λ n. KeepsOthers n (g.H.Shelf.arms c.loop-seat.shelf) held in subst Q at c.give_arm.ensures.others);
      others = c.give_arm.ensures.slots ∙ c.loop-seat.invariant.others;
      counted = c.give_arm.ensures.counted ∙ c.loop-seat.invariant.counted;
    }

pub returns-clause-given : goal.returns-clause-given
returns-clause-given g c =
    gives-all (IsGivenArm g.H.Arm.Arm.fault_count g.H.Arm.Arm.is_sure) c.args.seats.items c.loop-seat.seats.items (g.H.Shelf.arms c.args.shelf.now) (g.H.Shelf.arms c.loop-seat.shelf)
    (nil_from_length c.loop-seat.seats.items (let none = (c.in_default.ensures).cases in omega (arith, none.0, c.loop-seat.seats.ok.0))) c.loop-seat.invariant.gives
