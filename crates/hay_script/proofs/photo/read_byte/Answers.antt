use Rattle.std.proofs.Common.{◌≡◌, Some, sym, ◌∙◌, arith}
use Rattle.std.specs.Str.Parse.{digits_value}
use Rattle.hay_script.proofs.Digits.{all_hex, hex_number, two_digits}
use Rattle.hay_script.proofs.photo.read_byte.Goals as goal

pub read_digits-requires-clause-digits : goal.read_digits-requires-clause-digits
read_digits-requires-clause-digits c = all_hex c.args.digits.now (sym c.if-not-is_hex.ensures)

pub returns-in_err-read_digits : goal.returns-in_err-read_digits
returns-in_err-read_digits c =
    let read : c.read_digits.result ≡ Some (digits_value 16 c.args.digits.now) =
    hex_number 2 c.args.digits.now c.read_digits.result (omega arith) (omega arith) (sym c.if-not-is_hex.ensures) c.read_digits.ensures in
    cc (c.in_err-read_digits.was)

pub returns : goal.returns
returns c =
    two_digits c.args.digits.now c.in_ok-read_digits.field-0 c.try_from.result c.ok.result (omega arith) (sym c.if-not-is_hex.ensures)
    (sym c.in_ok-read_digits.was ∙ c.read_digits.ensures) c.try_from.ensures c.ok.ensures.value
