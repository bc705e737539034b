use Rattle.std.proofs.Common.{◌∙◌, sym}
use Rattle.std.proofs.lemmas.List.{take_rest}
use Rattle.hay_script.proofs.Cuts.{no_word, first_word}
use Rattle.hay_script.proofs.words.split_word.Goals as goal

pub returns-in_err-line : goal.returns-in_err-line
returns-in_err-line c = rw c.from_residual.ensures (no_word c.args.line.now (sym c.in_err-line.was ∙ c.first_other.ensures))

pub returns : goal.returns
returns c =
    let end = simp take_rest at c.unwrap_or-end.ensures in
    let blank = simp take_rest at c.first_blank.ensures in
    simp take_rest (first_word c.args.line.now c.in_ok-line.field-0 c.unwrap_or-end.result (sym c.in_ok-line.was ∙ c.first_other.ensures) (rw blank at end))
