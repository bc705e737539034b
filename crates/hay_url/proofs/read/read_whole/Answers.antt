use Rattle.std.proofs.Common.{◌∙◌, sym, codes}
use Rattle.std.proofs.lemmas.List.{take_rest}
use Rattle.hay_url.specs.Parts.{Fits, FromMachine}
use Rattle.hay_url.proofs.Languages.{in_part}
use Rattle.hay_url.proofs.Templates.{misfit_fault}
use Rattle.hay_url.proofs.Urls.{some_machine, store_then}
use Rattle.hay_url.proofs.read.read_whole.Goals as goal

pub returns-in-Some-clause-fault : goal.returns-in-Some-clause-fault
returns-in-Some-clause-fault c =
    in_part (Fits (codes "http://store/")) FromMachine c.args.text.now c.in-Some.at (misfit_fault (codes "http://store/") c.args.text.now c.in-Some.at
    (sym c.first_misfit.ensures.place ∙ c.in-Some.is)) some_machine.0 some_machine.1

pub returns-in-Err-clause-fault : goal.returns-in-Err-clause-fault
returns-in-Err-clause-fault c =
    store_then c.args.text.now c.in-Err.at (sym c.first_misfit.ensures.place ∙ c.in_default.is) (simp take_rest at c.in-Err.ensures.fault)
