use Rattle.std.proofs.Common.{ℕ, ◌-◌, ◌≤◌, length, ap, sym, ◌∙◌, arith}
use Rattle.std.specs.Prelude.{slice_get}
use Rattle.hay_core.specs.declared.machine.Doubt.TheVariants.{Head}
use Rattle.hay_core.specs.declared.calls.Effect.TheVariants.{Doubts, Settles}
use Rattle.hay_core.specs.declared.calls.Harm.TheVariants.{Freezes}
use Rattle.hay_core.specs.Calls.{closing_calls, gated}
use Rattle.hay_core.proofs.Lists.{get_behind}
use Rattle.hay_core.proofs.calls.closing_call.Goals as goal

pub returns-else-progress-closing : goal.returns-else-progress-closing
returns-else-progress-closing c =
    let closing = closing_calls c.args.copied.now in
    let head = gated Freezes (Doubts Head) (Settles Head) in
    let n = c.args.progress in
    let h : length closing ≤ n = omega (arith, c.closing_count-closing.ensures, c.if-progress-closing.false) in
    c.gated.ensures ∙ ap (λ (k : ℕ). slice_get head (n - k)) c.closing_count-closing.ensures ∙ sym (get_behind closing head n h)
