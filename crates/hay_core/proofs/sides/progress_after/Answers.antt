use Rattle.std.proofs.Common.{◌≡◌, ◌+◌, ◌≤◌, Some, ap, sym, ◌∙◌, subst, arith}
use Rattle.hay_core.specs.declared.machine.Work.{Work}
use Rattle.hay_core.specs.declared.machine.Work.TheVariants.{Step}
use Rattle.hay_core.specs.declared.calls.Effect.{Effect}
use Rattle.hay_core.specs.Calls.{call_from}
use Rattle.hay_core.specs.Sides.{progress_after}
use Rattle.hay_core.proofs.RoomLaws.{step_fits}
use Rattle.hay_core.proofs.sides.progress_after.Goals as goal

pub returns-in-Copies : goal.returns-in-Copies
returns-in-Copies c =
    let s = c.args.side.now in
    let x = c.in-Copies.copied in
    let p = c.args.progress in
    let w : Work = Step c.in-Step.side c.in-Step.cells in
    let P : Work → Type 0 = λ w. call_from w (Some p) s ≡ Some c.args.call.now in
    let fits : p + x.passed ≤ c.in-Step.cells = step_fits c.in-Step.side c.in-Step.cells s p c.args.call.now x (subst P c.in-Step.is c.requires) c.in-Copies.is in
    let sum : c.min.result ≡ p + x.passed = omega (arith, fits, c.min.ensures, c.saturating_add.ensures, c.min.type_inv, c.saturating_add.type_inv) in
    sum ∙ sym (ap (λ (w : Work). progress_after w c.args.call.now.effect p) c.in-Step.is ∙ ap (λ (e : Effect). progress_after w e p) c.in-Copies.is)
