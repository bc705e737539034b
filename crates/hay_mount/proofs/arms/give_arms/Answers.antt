use Rattle.std.proofs.Common.{◌≡◌, ℕ, length, refl, subst, ◌∙◌, arith}
use Rattle.std.proofs.lemmas.List.{nil_from_length}
use Rattle.hay_disk.specs.Disk.{KeepsOthers}
use Rattle.hay_mount.specs.Mounts.{IsGivenArm}
use Rattle.hay_mount.proofs.Giving.{gives-none, gives-one, gives-all}
use Rattle.hay_mount.proofs.arms.give_arms.Goals as goal

pub loop-arm-init : goal.loop-arm-init
loop-arm-init g c = record { gives = gives-none _ _ _; others = refl; counted = refl }

pub loop-arm-preserved : goal.loop-arm-preserved
loop-arm-preserved g c =
    let held = g.H.Shelf.arms c.give_arm.new.self in
    let given : (IsGivenArm g.H.Arm.Arm.fault_count g.H.Arm.Arm.is_sure) (held c.len.result) c.in-Some.arm = record {
      fault_count = c.give_arm.ensures.faults;
      is_sure = c.give_arm.ensures.sure;
      back = c.give_arm.ensures.back;
    } in
    let at : c.len.result ≡ length c.pop.new.self.items = c.len.ensures ∙ c.pop.new.self.ok.0 in
    record {
      gives =
          gives-one (IsGivenArm g.H.Arm.Arm.fault_count g.H.Arm.Arm.is_sure) c.args.arms.items c.loop-arm.arms.items c.pop.new.self.items c.in-Some.arm
          (g.H.Shelf.arms c.args.shelf.now) (g.H.Shelf.arms c.loop-arm.shelf) held
          (c.in-Some.ensures).items c.loop-arm.invariant.gives
          (let Q : ℕ → Type 0 = λ n. (IsGivenArm g.H.Arm.Arm.fault_count g.H.Arm.Arm.is_sure) (held n) c.in-Some.arm in subst Q at given)
          (let Q : ℕ → Type 0 = λ n. KeepsOthers n (g.H.Shelf.arms c.loop-arm.shelf) held in subst Q at c.give_arm.ensures.others);
      others = c.give_arm.ensures.slots ∙ c.loop-arm.invariant.others;
      counted = c.give_arm.ensures.counted ∙ c.loop-arm.invariant.counted;
    }

pub returns-clause-given : goal.returns-clause-given
returns-clause-given g c =
    gives-all (IsGivenArm g.H.Arm.Arm.fault_count g.H.Arm.Arm.is_sure) c.args.arms.items c.loop-arm.arms.items (g.H.Shelf.arms c.args.shelf.now) (g.H.Shelf.arms c.loop-arm.shelf)
    (nil_from_length c.loop-arm.arms.items (let none = (c.in_default.ensures).cases in omega (arith, none.0, c.loop-arm.arms.ok.0))) c.loop-arm.invariant.gives
