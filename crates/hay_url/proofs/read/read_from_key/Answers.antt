use Rattle.std.proofs.Common.{arith}
use Rattle.hay_url.proofs.Digits.{hex_below}
use Rattle.hay_url.proofs.Urls.{key_text_is}
use Rattle.hay_url.proofs.read.read_from_key.Goals as goal

pub overflow_cast-pair : goal.overflow_cast-pair
overflow_cast-pair c =
    let read = c.in_ok-numbers.ensures.numbers in
    let alt = c.in_ok-numbers.numbers.alt.now in
    let below = hex_below 8 alt (omega (arith, read.alt_length)) read.alt_digits in
    omega (arith, c.hex_number-2.ensures)

pub returns-clause-url : goal.returns-clause-url
returns-clause-url c =
    let n = c.in_ok-numbers.numbers in
    rw (c.hex_number.ensures, c.hex_number-2.ensures, c.hex_number-3.ensures) (key_text_is c.args.text.now n.key.now n.alt.now n.cookie.now c.in_ok-numbers.ensures.numbers)
