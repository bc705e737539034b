use Rattle.std.proofs.Common.{lit≤}
use Rattle.hay_script.proofs.Digits.{is_text}
use Rattle.hay_frame.proofs.line.read_digits.Goals as goal

pub returns-in-Err : goal.returns-in-Err
returns-in-Err c = absurd (c.in-Err.ensures.cases.0 (is_text 10 c.args.text.now (lit≤ tt) c.requires.digits))
