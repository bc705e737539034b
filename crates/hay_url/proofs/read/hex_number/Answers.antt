use Rattle.std.proofs.Common.{arith}
use Rattle.std.proofs.lemmas.Int.Digits.{digits_value_more}
use Rattle.hay_url.proofs.Digits.{hex_more_below}
use Rattle.hay_url.proofs.read.hex_number.Goals as goal

pub overflow_mul-number : goal.overflow_mul-number
overflow_mul-number c =
    let below = hex_more_below c.args.digits.now c.loop-digit.digit-index c.requires.few c.loop-digit-test.true c.requires.lower in
    omega arith

pub overflow_add-number : goal.overflow_add-number
overflow_add-number c =
    let below = hex_more_below c.args.digits.now c.loop-digit.digit-index c.requires.few c.loop-digit-test.true c.requires.lower in
    omega arith

pub loop-digit-preserved : goal.loop-digit-preserved
loop-digit-preserved c =
    let more = digits_value_more 16 c.args.digits.now c.loop-digit.digit-index c.loop-digit-test.true in
    omega arith
