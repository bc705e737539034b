use Rattle.std.proofs.Common.{rules, ◌≡◌, ◌∙◌, Some, List, ap, map, drop, subst, sym}
use Rattle.std.specs.Prelude.{IfOk, string_bytes}
use Rattle.hay_needle.specs.declared.settings.Settings.{Settings}
use Rattle.hay_cli.specs.Commands.{Text, audit_names}
use Rattle.hay_cli.specs.Reading.{store_of}
use Rattle.hay_cli.proofs.run.read_audit.Goals as goal

pub returns-clause-said : goal.returns-clause-said
returns-clause-said c =
    let names_are : map (λ s. s.now) c.as_slice.result.now ≡ audit_names = search rules in
    subst (λ (names : List Text). IfOk c.read_options.result (λ (settings : Settings). store_of names (drop 1 (map string_bytes c.args.words.now)) ≡ Some settings)) names_are
    c.read_options.ensures.said

pub returns-clause-usage : goal.returns-clause-usage
returns-clause-usage c = λ usage.
    let names_are : map (λ s. s.now) c.as_slice.result.now ≡ audit_names = search rules in
    ap (λ (names : List Text). store_of names (drop 1 (map string_bytes c.args.words.now))) (sym names_are) ∙ c.read_options.ensures.usage usage
