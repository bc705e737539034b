use Rattle.std.proofs.Common.{◌≡◌, ◌+◌, ◌<◌, ◌++◌, ◌∷◌, [], List, Option, length, drop, ap, sym, ◌∙◌, true, false, subst, arith}
use Rattle.std.specs.Prelude.{option_map, is_some, if◌then◌else◌}
use Rattle.hay_core.specs.declared.machine.Side.{Side}
use Rattle.hay_core.specs.declared.calls.Harm.{Harm}
use Rattle.hay_core.specs.declared.calls.DeviceCall.{DeviceCall}
use Rattle.hay_core.specs.Sides.{after_ok, after_failed}
use Rattle.hay_core.specs.Transitions.{at_first, first_call}
use Rattle.hay_core.proofs.HoldCode.{left, harm_or, sides_met, harm_met, sides_on, harm_on, none_met, none_or}
use Rattle.hay_core.proofs.holds.all_called.Goals as goal
use Rattle.hay_core.proofs.holds.all_called.Goals.{then-is_some+in_ok-duplicate+in_ok-push, else-is_some+in_ok-called+in_ok-push-2}

pub loop-side-preserved : goal.loop-side-preserved
loop-side-preserved c =
    let w = c.args.work.now in
    let f : DeviceCall → Side → Side = if c.args.made then after_ok w else after_failed w in
    let list = c.args.list.now in
    let i = c.loop-side.side-index in
    let s = c.side-item.result in
    let h : i < length list = omega arith in
    let G : List Side → Option Harm → Type 0 = λ sides harm. record {
      sides_left : sides ++ left w f harm (drop (i + 1) list) ≡ at_first w f list;
      harm_left : harm_or harm (option_map (λ call. call.harm) (first_call w (drop (i + 1) list))) ≡ option_map (λ call. call.harm) (first_call w list);
    } in
    elim c.if-is_some.branch [
      | then-is_some+in_ok-duplicate+in_ok-push v ↦
          let met : is_some c.loop-side.harm ≡ true = cc in
          let t = v.in_ok-duplicate.field-0 in
          let pushed : c.if-is_some.sides ≡ c.loop-side.sides ++ t ∷ [] = v.sides-is ∙ v.in_ok-push.ensures.ok in
          let now : G (c.loop-side.sides ++ t ∷ []) c.loop-side.harm = record {
            sides_left = sides_on w f c.loop-side.sides list (at_first w f list) i s t c.loop-side.harm met h c.side-item.is v.in_ok-duplicate.ensures.same c.loop-side.invariant.sides_left;
            harm_left =
                harm_on (option_map (λ call. call.harm) (first_call w (drop i list))) (option_map (λ call. call.harm) (first_call w (drop (i + 1) list)))
                (option_map (λ call. call.harm) (first_call w list)) c.loop-side.harm met c.loop-side.invariant.harm_left;
          } in
          let P : List Side → Type 0 = λ sides. G sides c.if-is_some.harm in
          let Q : Option Harm → Type 0 = λ harm. G (c.loop-side.sides ++ t ∷ []) harm in
          subst P (sym pushed) (subst Q (sym v.harm-is) now)
      | else-is_some+in_ok-called+in_ok-push-2 v ↦
          let unmet : is_some c.loop-side.harm ≡ false = cc in
          let t = v.in_ok-called.called.side in
          let x = v.in_ok-called.called.harm in
          let pushed : c.if-is_some.sides ≡ c.loop-side.sides ++ t ∷ [] = v.sides-is ∙ v.in_ok-push-2.ensures.ok in
          let now : G (c.loop-side.sides ++ t ∷ []) x = record {
            sides_left = sides_met w f c.loop-side.sides list (at_first w f list) i s t x h c.side-item.is v.in_ok-called.ensures.side v.in_ok-called.ensures.harm
                (ap (λ (xs : List Side). c.loop-side.sides ++ xs) (sym (none_met w f c.loop-side.harm (drop i list) unmet)) ∙ c.loop-side.invariant.sides_left);
            harm_left = harm_met w list i s x (option_map (λ call. call.harm) (first_call w list)) h c.side-item.is v.in_ok-called.ensures.harm
                (sym (none_or c.loop-side.harm (option_map (λ call. call.harm) (first_call w (drop i list))) unmet) ∙ c.loop-side.invariant.harm_left);
          } in
          let P : List Side → Type 0 = λ sides. G sides c.if-is_some.harm in
          let Q : Option Harm → Type 0 = λ harm. G (c.loop-side.sides ++ t ∷ []) harm in
          subst P (sym pushed) (subst Q (sym v.harm-is) now)
    ]
