use Rattle.std.proofs.Common.{◌≡◌, ℕ, true, refl, sym, ap, subst, ◌∙◌, arith, inl, inr}
use Rattle.std.proofs.lemmas.Bool.{cases_lt}
use Rattle.hay_disk.specs.Shelf.{HeldArm}
use Rattle.hay_mount.specs.Mounts.{InOrder, IsMountedArm}
use Rattle.hay_mount.proofs.Giving.{arms_back}
use Rattle.hay_mount.proofs.Orders.{InOrder-snoc}
use Rattle.hay_mount.proofs.arms.take_arms.Goals as goal

pub returns-in-Err-Failed-clause-put_back : goal.returns-in-Err-Failed-clause-put_back
returns-in-Err-Failed-clause-put_back g c =
    let loop = c.loop-lane.invariant in
    let same : g.H.Shelf.arms c.take_arm.new.self ≡ g.H.Shelf.arms c.loop-lane.shelf = c.in-Err-Failed.ensures.refused refl in
    arms_back g.H.Arm.Arm.fault_count g.H.Arm.Arm.is_sure c.args.lanes c.loop-lane.arms.items (g.H.Shelf.arms c.args.shelf.now) (g.H.Shelf.arms c.loop-lane.shelf)
    (g.H.Shelf.arms c.give_arms.new.shelf)
    c.requires.arms_in loop.taken (λ number high. loop.rest number (omega (arith, loop.count)))
    c.give_arms.ensures.given (λ number high. c.give_arms.ensures.others number high ∙ ap (λ (held : ℕ → HeldArm). held number) same)

pub returns-in-Err-NoMemory-clause-put_back : goal.returns-in-Err-NoMemory-clause-put_back
returns-in-Err-NoMemory-clause-put_back g c =
    let loop = c.loop-lane.invariant in
    let same : g.H.Shelf.arms c.take_arm.new.self ≡ g.H.Shelf.arms c.loop-lane.shelf = c.in-Err-NoMemory.ensures.refused refl in
    arms_back g.H.Arm.Arm.fault_count g.H.Arm.Arm.is_sure c.args.lanes c.loop-lane.arms.items (g.H.Shelf.arms c.args.shelf.now) (g.H.Shelf.arms c.loop-lane.shelf)
    (g.H.Shelf.arms c.give_arms-in-Err-NoMemory.new.shelf)
    c.requires.arms_in loop.taken (λ number high. loop.rest number (omega (arith, loop.count)))
    c.give_arms-in-Err-NoMemory.ensures.given (λ number high. c.give_arms-in-Err-NoMemory.ensures.others number high ∙ ap (λ (held : ℕ → HeldArm). held number) same)

pub loop-lane-preserved : goal.loop-lane-preserved
loop-lane-preserved g c =
    let loop = c.loop-lane.invariant in
    let old = g.H.Shelf.arms c.args.shelf.now in
    let same : g.H.Shelf.arms c.loop-lane.shelf c.loop-lane.lane ≡ old c.loop-lane.lane = loop.rest c.loop-lane.lane (omega arith) in
    let P : ℕ → g.row.H-Arm.Denot → Type 0 = λ number arm. IsMountedArm g.H.Arm.Arm.fault_count g.H.Arm.Arm.is_sure (old number) arm in
    let taken : P c.loop-lane.lane c.in-Ok.arm = record {
      fault_count = c.in-Ok.ensures.faults ∙ ap (λ (held : HeldArm). held.fault_count) same;
      is_sure = c.in-Ok.ensures.sure ∙ ap (λ (held : HeldArm). held.is_sure) same;
    } in
    record {
      taken = subst (λ items. InOrder P 0 items) (sym c.push_reserved.ensures.items)
          (InOrder-snoc P 0 c.loop-lane.arms.items c.in-Ok.arm loop.taken (subst (λ number. P number c.in-Ok.arm) (omega (arith, loop.count)) taken));
      count = omega (arith, c.push_reserved.ensures.len, c.push_reserved.new.self.ok.0, c.loop-lane.arms.ok.0, loop.count);
      room = c.push_reserved.ensures.capacity ∙ loop.room;
      out = λ number below. elim (cases_lt number c.loop-lane.lane) [
        | inl less ↦ ap (λ (held : HeldArm). held.is_out) (c.take_arm.ensures.others number (λ is. absurd (omega arith))) ∙ loop.out number less
        | inr more ↦ subst (λ number'. (g.H.Shelf.arms c.take_arm.new.self number').is_out ≡ true) (omega arith) c.in-Ok.ensures.out
      ];
      rest = λ number high. c.take_arm.ensures.others number (λ is. absurd (omega arith)) ∙ loop.rest number (omega arith);
      others = c.take_arm.ensures.slots ∙ loop.others;
      counted = omega (arith, loop.counted, c.take_arm.ensures.counted.later);
    }
