use Rattle.std.proofs.Common.{ap, Err}
use Rattle.hay_open.proofs.listing.read_index.Goals as goal

pub returns-in-Err-Damaged-clause-only : goal.returns-in-Err-Damaged-clause-only
returns-in-Err-Damaged-clause-only g c = λ tells records end is number at told.
    c.in-Err-Damaged.ensures.sound tells records end c.in-Err-Damaged.at is (ap (λ x. Err x) c.in-Err-Damaged.field-0-is)
