use Rattle.std.proofs.Common.{rules, true, ◌≡◌, ◌∙◌, ap, ap₂, arith, map}
use Rattle.std.proofs.lemmas.List.{take_all}
use Rattle.clap.specs.Words.{App, rule_of, with_rule}
use Rattle.clap.specs.Simple.{app_of_fields}
use Rattle.hay_cli.specs.Parsed.{options_app, raw}
use Rattle.hay_cli.proofs.Parses.{more_names}
use Rattle.hay_cli.proofs.options.options_command.Goals as goal

pub loop-name-init : goal.loop-name-init
loop-name-init c = ap app_of_fields c.disable_help_flag-command.ensures ∙ ap (λ (a : App). record a { top = record a.top { disable_help_flag = true } }) c.new.ensures.app

pub loop-name-preserved : goal.loop-name-preserved
loop-name-preserved c =
    let name = c.new-in-loop-name.result.id in
    let rule_is : rule_of c.long.result ≡ raw name.now = search rules in
    c.in_ok-command.ensures.shape (search rules)
    ∙ (ap₂ with_rule c.loop-name.invariant rule_is ∙ more_names c.args.mode.now c.args.names.now c.loop-name.name-index name (omega arith) (search rules))

pub returns : goal.returns
returns c =
    c.loop-name.invariant ∙ ap (λ xs. options_app c.args.mode.now (map (λ s. s.now) xs)) (take_all c.loop-name.name-index c.args.names.now (omega arith))
