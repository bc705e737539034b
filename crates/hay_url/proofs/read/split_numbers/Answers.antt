use Rattle.std.proofs.Common.{◌∙◌, sym, [], refl}
use Rattle.hay_url.specs.Parts.{Fits, End, numbers_template}
use Rattle.hay_url.proofs.Languages.{in_part}
use Rattle.hay_url.proofs.Templates.{misfit_fault}
use Rattle.hay_url.proofs.Urls.{numbers_then_more, numbers_split}
use Rattle.hay_url.proofs.read.split_numbers.Goals as goal

pub returns-in-Some-clause-fault : goal.returns-in-Some-clause-fault
returns-in-Some-clause-fault c =
    in_part (Fits numbers_template) End c.args.text.now c.in-Some.at (misfit_fault numbers_template c.args.text.now c.in-Some.at (sym c.first_misfit.ensures.place ∙ c.in-Some.is)) [] refl

pub returns-then-text-gt42-clause-fault : goal.returns-then-text-gt42-clause-fault
returns-then-text-gt42-clause-fault c = numbers_then_more c.args.text.now (sym c.first_misfit.ensures.place ∙ c.in_default.is) c.if-text-gt42.true

pub returns-clause-numbers : goal.returns-clause-numbers
returns-clause-numbers c = numbers_split c.args.text.now (sym c.first_misfit.ensures.place ∙ c.in_default.is) c.if-text-gt42.false
