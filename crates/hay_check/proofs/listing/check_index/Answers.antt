use Rattle.std.proofs.Common.{arith}
use Rattle.std.proofs.lemmas.List.{length-map}
use Rattle.hay_open.specs.Listing.{head_record}
use Rattle.hay_check.proofs.listing.check_index.Goals as goal

pub returns-in-Ok-clause-most : goal.returns-in-Ok-clause-most
returns-in-Ok-clause-most g c = let within = c.in-Ok.ensures.lists.within in omega (arith, within, length-map c.args.heads.now head_record)
