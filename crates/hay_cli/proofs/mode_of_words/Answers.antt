use Rattle.std.proofs.Common.{rules, ◌∙◌}
use Rattle.hay_cli.proofs.Modes.{no_mode}
use Rattle.hay_cli.proofs.mode_of_words.Goals as goal

pub returns-in_default-as_str-clause-no_mode : goal.returns-in_default-as_str-clause-no_mode
returns-in_default-as_str-clause-no_mode c = λ usage.
    no_mode c.args.words.now c.mode-item.result (search rules) (λ e. c.in_default-as_str.not-run (c.as_str.ensures.value ∙ e))
    (λ e. c.in_default-as_str.not-check (c.as_str.ensures.value ∙ e)) (λ e. c.in_default-as_str.not-load (c.as_str.ensures.value ∙ e))
    (λ e. c.in_default-as_str.not-audit (c.as_str.ensures.value ∙ e)) (λ e. c.in_default-as_str.not-drill (c.as_str.ensures.value ∙ e))
