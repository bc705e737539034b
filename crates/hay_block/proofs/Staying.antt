-- Volumes that stand as they stood.
use Rattle.std.proofs.Common.{◌≡◌, ◌<◌, ◌-◌, ◌++◌, ℕ, List, [], ◌∷◌, length, refl, sym, ap, subst, ◌∙◌, arith, Some, slice_get, length-append, reverse}
use Rattle.std.proofs.lemmas.List.{length-reverse}
use Rattle.std.proofs.lemmas.Option.{slice_get_within}
use mathlib.Core.Logic.{dite}
use native.Mathlib.Decide.{ℕ_discrete}
use Rattle.hay_needle.specs.declared.settings.Settings.{Settings}
use Rattle.hay_core.specs.declared.entry.Entry.{Entry}
use Rattle.hay_front.specs.declared.front.Tag.{Tag}
use Rattle.hay_legal.specs.declared.known.VolumeKnown.{VolumeKnown}
use Rattle.hay_legal.specs.Known.{empty_volume}
use Rattle.hay_history.specs.LaneSteps.{Standing}
use Rattle.hay_meeting.specs.declared.act.VolumeAct.{VolumeAct}
use Rattle.hay_meeting.specs.Acts.{volume_lock}
use Rattle.hay_meeting.specs.Locks.{LockSight, left}
use Rattle.hay_shared_volume.specs.Making.{LeavesVolume, standing}
use Rattle.hay_block.specs.Stores.{AreStill, IsStill}
use Rattle.hay_block.proofs.Giving.{added_at, before_added}
use Rattle.hay_block.proofs.Lists.{reversed_at, same_item}

module _ {W : Type 0} {stands : W → VolumeKnown → Type 0} {faults fuses : W → ℕ → ℕ} {settings : Settings} where
  pub still_self : (ws : List W) → AreStill stands faults fuses settings ws ws
  still_self ws = record {
    many = refl;
    each = λ i a b at_a at_b. let same : a ≡ b = same_item ws i at_a at_b in record {
      stands_for = λ known is. subst (λ w. stands w known) same is;
      faults_are = λ j within. ap (λ w. faults w j) (sym same);
      fuses_are = λ j within. ap (λ w. fuses w j) (sym same);
    };
  }

  pub still_added : (xs ys : List W) (a b : W) → AreStill stands faults fuses settings xs ys → IsStill stands faults fuses settings a b
      → AreStill stands faults fuses settings (xs ++ a ∷ []) (ys ++ b ∷ [])
  still_added xs ys a b still one =
      let n = length-append xs (a ∷ []) in
      let m = length-append ys (b ∷ []) in
      let k = still.many in record {
        many = omega (arith, n, m, k);
        each = λ i x y at_x at_y. dite (ℕ_discrete i (length xs))
            (λ here.
            let x_is : a ≡ x = same_item (xs ++ a ∷ []) (length xs) (added_at xs a) (subst (λ n. slice_get (xs ++ a ∷ []) n ≡ Some x) here at_x) in
            let y_is : b ≡ y = same_item (ys ++ b ∷ []) (length ys) (added_at ys b) (subst (λ n. slice_get (ys ++ b ∷ []) n ≡ Some y) (here ∙ sym still.many) at_y) in
            subst (λ z. IsStill stands faults fuses settings z y) x_is (subst (IsStill stands faults fuses settings a) y_is one))
            (λ differs.
            let below : i < length xs = let within = slice_get_within (xs ++ a ∷ []) i x at_x in omega (arith, within, n, differs) in
            still.each i x y (sym (before_added xs a i below) ∙ at_x) (sym (before_added ys b i (omega (arith, below, k))) ∙ at_y));
      }

  pub still_reversed : (xs ys : List W) → AreStill stands faults fuses settings xs ys → AreStill stands faults fuses settings (reverse xs) (reverse ys)
  still_reversed xs ys still = record {
    many = length-reverse ys ∙ (still.many ∙ sym (length-reverse xs));
    each = λ i x y at_x at_y.
        let below : i < length xs = let within = slice_get_within (reverse xs) i x at_x in let n = length-reverse xs in omega (arith, within, n) in
        let below' : i < length ys = let k = still.many in omega (arith, below, k) in
        still.each (length xs - 1 - i) x y (sym (reversed_at xs i below) ∙ at_x)
        (subst (λ n. slice_get ys (n - 1 - i) ≡ Some y) still.many (sym (reversed_at ys i below') ∙ at_y));
  }

  -- a lock at which nothing happened leaves its volume so
  pub left_still : {S : Type 0} {of : S → LockSight VolumeAct Entry} {number : ℕ} {volume after : W} {seats : List S} {tags : List Tag}
      (leaves : LeavesVolume of stands faults fuses settings number volume seats after tags) → leaves.history ≡ [] → IsStill stands faults fuses settings volume after
  left_still {S} {of} {number} {volume} {after} leaves none = record {
    stands_for = λ known is. subst (λ acts. stands after (by known acts).volume) none (leaves.stands_for known is);
    faults_are = λ j within. sym (subst (λ acts. (by empty_volume acts).faults j ≡ faults after j) none (leaves.faults_are empty_volume j within));
    fuses_are = λ j within. sym (subst (λ acts. (by empty_volume acts).fuses j ≡ fuses after j) none (leaves.fuses_are empty_volume j within));
  }
    where
      by : VolumeKnown → List VolumeAct → Standing
      by known acts = left volume_lock (standing faults fuses volume known) acts
