use Rattle.std.proofs.Common.{rules, ◌≡◌, ◌∙◌, ap, sym, map, drop, subst, [], None}
use Rattle.std.specs.Prelude.{string_bytes}
use Rattle.clap.specs.Words.{App, is_simple, fault_of, is_simple_and_free, matches_of, HasKind, kind_of}
use Rattle.clap.specs.declared.error.kind.ErrorKind.TheVariants.{OutOfMemory}
use Rattle.hay_cli.proofs.Parses.{accepted, refused, simple, simple_and_free, texts_behind, dashes_none}
use Rattle.hay_cli.proofs.options.parse_options.Goals as goal

pub returns-in-Ok-clause-ok : goal.returns-in-Ok-clause-ok
returns-in-Ok-clause-ok c =
    let names = map (λ s. s.now) c.args.names.now in
    let words = map string_bytes c.args.words.now in
    let app_is = c.in_ok-command.ensures in
    let is = ap is_simple_and_free app_is ∙ simple_and_free c.args.mode.now names in
    accepted c.args.mode.now names words c.in-Ok.matches (texts_behind c.args.words.now (search rules))
    (sym (ap (λ (a : App). fault_of a words) app_is) ∙ c.in-Ok.ensures.kinds is)
    ((c.in-Ok.ensures.matches (ap is_simple app_is ∙ simple c.args.mode.now names)).0 ∙ ap (λ (a : App). matches_of a words) app_is)

pub returns-clause-usage : goal.returns-clause-usage
returns-clause-usage c = λ usage.
    let names = map (λ s. s.now) c.args.names.now in
    let words = map string_bytes c.args.words.now in
    let app_is = c.in_ok-command.ensures in
    let is = ap is_simple_and_free app_is ∙ simple_and_free c.args.mode.now names in
    let other : kind_of c.in-Err.error ≡ OutOfMemory → ⊥ = λ e. c.in_default.not-OutOfMemory (c.kind.ensures ∙ e) in
    let kinds = subst (λ (a : App). HasKind (fault_of a words) c.in-Err.error) app_is (c.in-Err.ensures.kinds is) in
    refused c.args.mode.now names words c.in-Err.error (texts_behind c.args.words.now (search rules)) kinds other

pub returns-then-are_ended-clause-usage : goal.returns-then-are_ended-clause-usage
returns-then-are_ended-clause-usage c = λ usage.
    dashes_none (map (λ s. s.now) c.args.names.now) (drop 1 (map string_bytes c.args.words.now)) [] None (sym c.are_ended.ensures ∙ c.if-are_ended.true)
