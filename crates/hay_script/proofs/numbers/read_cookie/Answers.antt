use Rattle.std.proofs.Common.{◌≡◌, Some, sym, arith}
use Rattle.std.specs.Str.Parse.{digits_value}
use Rattle.hay_script.proofs.Digits.{all_hex, hex_number}
use Rattle.hay_script.proofs.numbers.read_cookie.Goals as goal

pub read_digits-requires-clause-digits : goal.read_digits-requires-clause-digits
read_digits-requires-clause-digits c = all_hex c.args.text.now (sym c.if-not-is_hex.ensures)

pub returns-in_err-read_digits : goal.returns-in_err-read_digits
returns-in_err-read_digits c =
    let read : c.read_digits.result ≡ Some (digits_value 16 c.args.text.now) =
    hex_number 16 c.args.text.now c.read_digits.result (omega arith) (omega arith) (sym c.if-not-is_hex.ensures) c.read_digits.ensures in
    cc (c.in_err-read_digits.was)
