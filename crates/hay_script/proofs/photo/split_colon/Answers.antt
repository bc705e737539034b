use Rattle.std.proofs.Common.{◌∙◌, sym}
use Rattle.std.proofs.lemmas.List.{take_rest}
use Rattle.hay_script.proofs.Cuts.{one_part, first_part}
use Rattle.hay_script.specs.Script.{is_colon}
use Rattle.hay_script.proofs.photo.split_colon.Goals as goal

pub returns-in_err-colon : goal.returns-in_err-colon
returns-in_err-colon c = rw c.from_residual.ensures (one_part is_colon c.args.run.now (sym c.in_err-colon.was ∙ c.first_colon.ensures))

pub returns : goal.returns
returns c = rw take_rest (first_part is_colon c.args.run.now c.in_ok-colon.colon (sym c.in_ok-colon.was ∙ c.first_colon.ensures))
