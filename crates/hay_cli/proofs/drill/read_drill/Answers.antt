use Rattle.std.proofs.Common.{◌≡◌, ◌∙◌, ap, ap₂, sym, map, subst, arith}
use Rattle.std.specs.Prelude.{codes, string_bytes}
use Rattle.clap.specs.Words.{App, is_simple, fault_of, is_simple_and_free, matches_of, HasKind, kind_of}
use Rattle.clap.specs.declared.error.kind.ErrorKind.TheVariants.{OutOfMemory}
use Rattle.hay_cli.specs.Reading.{drill_by}
use Rattle.hay_cli.proofs.Drills.{drill_said, drill_refused, drill_simple, drill_free}
use Rattle.hay_cli.proofs.drill.read_drill.Goals as goal

pub returns-in-Some-clause-said : goal.returns-in-Some-clause-said
returns-in-Some-clause-said c =
    let words = map string_bytes c.args.words.now in
    let app_is = c.in_ok-command.ensures in
    drill_said (codes "drill") c.args.words.now c.in-Ok.matches (omega arith)
    (sym (ap (λ (a : App). fault_of a words) app_is) ∙ c.in-Ok.ensures.kinds (ap is_simple_and_free app_is ∙ drill_free (codes "drill")))
    ((c.in-Ok.ensures.matches (ap is_simple app_is ∙ drill_simple (codes "drill"))).0 ∙ ap (λ (a : App). matches_of a words) app_is)
    ∙ (ap₂ drill_by (sym c.get_str.ensures) (sym c.get_str-in-Ok.ensures) ∙ (sym c.drill_mode.ensures ∙ c.in-Some.is))

pub returns-in-Ok-clause-usage : goal.returns-in-Ok-clause-usage
returns-in-Ok-clause-usage c = λ usage.
    let words = map string_bytes c.args.words.now in
    let app_is = c.in_ok-command.ensures in
    drill_said (codes "drill") c.args.words.now c.in-Ok.matches (omega arith)
    (sym (ap (λ (a : App). fault_of a words) app_is) ∙ c.in-Ok.ensures.kinds (ap is_simple_and_free app_is ∙ drill_free (codes "drill")))
    ((c.in-Ok.ensures.matches (ap is_simple app_is ∙ drill_simple (codes "drill"))).0 ∙ ap (λ (a : App). matches_of a words) app_is)
    ∙ (ap₂ drill_by (sym c.get_str.ensures) (sym c.get_str-in-Ok.ensures) ∙ (sym c.drill_mode.ensures ∙ c.in-None.is))

pub returns-clause-usage : goal.returns-clause-usage
returns-clause-usage c = λ usage.
    let words = map string_bytes c.args.words.now in
    let app_is = c.in_ok-command.ensures in
    let other : kind_of c.in-Err.error ≡ OutOfMemory → ⊥ = λ e. c.in_default.not-OutOfMemory (c.kind.ensures ∙ e) in
    let kinds = subst (λ (a : App). HasKind (fault_of a words) c.in-Err.error) app_is (c.in-Err.ensures.kinds (ap is_simple_and_free app_is ∙ drill_free (codes "drill"))) in
    drill_refused (codes "drill") c.args.words.now c.in-Err.error (omega arith) kinds other
