use Rattle.hay_script.proofs.Digits.{is_text}
use Rattle.hay_script.proofs.numbers.read_digits.Goals as goal

pub returns-in-Err : goal.returns-in-Err
returns-in-Err c = absurd (c.in-Err.ensures.cases.0 (is_text c.args.radix c.args.text.now c.requires.most c.requires.digits))
