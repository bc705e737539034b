use Rattle.std.proofs.Common.{◌∙◌, sym}
use Rattle.std.proofs.lemmas.List.{take_rest}
use Rattle.hay_reply.specs.Reading.{is_mark}
use Rattle.hay_reply.proofs.Cuts.{one_part, first_part}
use Rattle.hay_reply.proofs.words.next_part.Goals as goal

pub returns-in-Some : goal.returns-in-Some
returns-in-Some c =
    rw (c.in_ok-text.was, take_rest) (first_part (is_mark c.args.mark) c.in_ok-text.text.now c.in-Some.at (sym c.in-Some.is ∙ c.first_mark.ensures))

pub returns-in-None : goal.returns-in-None
returns-in-None c =
    rw c.in_ok-text.was (one_part (is_mark c.args.mark) c.in_ok-text.text.now (sym c.in-None.is ∙ c.first_mark.ensures))
