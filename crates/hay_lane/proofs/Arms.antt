-- How an arm stands behind calls.
use Rattle.std.proofs.Common.{◌≡◌, ◌≤◌, ℕ, Bool, ap, ◌∙◌, arith}
use Rattle.hay_lane.specs.Lanes.{IsLaterArm}

module _ {A : Type 0} {is_sure : A → Bool} {faults : A → ℕ} where
  pub later_same : {a b : A} → b ≡ a → IsLaterArm is_sure faults a b
  later_same same = record {
    rises = (let e = ap faults same in omega (arith, e));
    sure = λ sure. (ap is_sure same ∙ sure, ap faults same);
  }

  pub later_on : {a b c : A} → IsLaterArm is_sure faults a b → IsLaterArm is_sure faults b c → IsLaterArm is_sure faults a c
  later_on x y = record {
    rises = (let m = x.rises in let n = y.rises in omega (arith, m, n));
    sure = λ sure. let s = x.sure sure in let t = y.sure s.0 in (t.0, t.1 ∙ s.1);
  }
