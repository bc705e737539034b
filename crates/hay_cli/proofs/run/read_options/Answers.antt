use Rattle.std.proofs.Common.{◌∙◌, sym, map}
use Rattle.std.specs.Prelude.{string_bytes}
use Rattle.hay_cli.proofs.Parses.{store_said}
use Rattle.hay_cli.proofs.run.read_options.Goals as goal

pub returns-in-Some-clause-said : goal.returns-in-Some-clause-said
returns-in-Some-clause-said c =
    store_said (map (λ s. s.now) c.args.names.now) (map string_bytes c.args.words.now) c.in_ok-matches.matches c.in_ok-matches.ensures.ok ∙ (sym c.read_settings.ensures ∙ c.in-Some.is)

pub returns-clause-usage : goal.returns-clause-usage
returns-clause-usage c = λ usage.
    store_said (map (λ s. s.now) c.args.names.now) (map string_bytes c.args.words.now) c.in_ok-matches.matches c.in_ok-matches.ensures.ok ∙ (sym c.read_settings.ensures ∙ c.in-None.is)
