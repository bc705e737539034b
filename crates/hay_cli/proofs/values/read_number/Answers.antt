use Rattle.std.proofs.Common.{rules, ◌≡◌, ◌∙◌, arith, sym, None}
use Rattle.std.proofs.lemmas.Bool.Decides.{nat_tests}
use Rattle.hay_cli.proofs.Numbers.{none_parsed}
use Rattle.hay_cli.proofs.values.read_number.Goals as goal

pub returns-in_err-number : goal.returns-in_err-number
returns-in_err-number c =
    let none : c.ok.result ≡ None = search rules in
    let given : c.from_residual.result ≡ None = search rules in
    given ∙ none_parsed c.args.low c.args.high c.args.text.now c.parse.result (omega (arith, c.ranges.high.fits)) (grind (arith, nat_tests, c.if-is_empty.ensures))
    (sym c.if-not-is_decimal.ensures) (sym c.ok.ensures.value ∙ none) c.parse.ensures.value.0
