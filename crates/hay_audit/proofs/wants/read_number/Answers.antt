use Rattle.std.proofs.Common.{◌∙◌, arith, sym}
use Rattle.std.proofs.lemmas.Bool.Decides.{nat_tests}
use Rattle.hay_reply.proofs.Numbers.{parsed, is_text}
use Rattle.hay_audit.proofs.wants.read_number.Goals as goal

pub returns-in-Ok : goal.returns-in-Ok
returns-in-Ok c =
    let spelled = c.parse.ensures.value.0 in
    let same = rw c.in-Ok.ensures.cases.0 at spelled in
    c.ok.ensures.value ∙ parsed 64 c.args.text.now c.parse.result (grind (arith, nat_tests, c.if-is_empty.ensures)) (sym c.if-not-is_decimal.ensures) same

pub returns-in-Err : goal.returns-in-Err
returns-in-Err c = absurd (c.in-Err.ensures.cases.0 (is_text c.args.text.now (sym c.if-not-is_decimal.ensures)))
