use Rattle.std.proofs.Common.{◌≡◌, ◌∙◌, ◌+◌, Some, sym, ap, arith, option_map}
use Rattle.hay_url.proofs.Templates.{misfit_at_end}
use Rattle.hay_url.proofs.read.first_misfit.Goals as goal

pub returns-then-at-text-clause-place : goal.returns-then-at-text-clause-place
returns-then-at-text-clause-place c =
    let at = c.loop-at.at in
    let here : at + 0 ≡ at = omega arith in
    sym (c.loop-at.invariant.1 ∙ ap (option_map (λ further. at + further)) (misfit_at_end c.args.template.now c.args.text.now at c.loop-at-test.true c.if-at-text.true) ∙ ap Some here)
