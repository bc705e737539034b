use Rattle.std.proofs.Common.{sym}
use Rattle.hay_script.proofs.Digits.{all_decimal}
use Rattle.hay_frame.proofs.line.read_length.Goals as goal

pub read_digits-requires-clause-digits : goal.read_digits-requires-clause-digits
read_digits-requires-clause-digits c = all_decimal c.args.text.now (sym c.if-not-is_decimal.ensures)
