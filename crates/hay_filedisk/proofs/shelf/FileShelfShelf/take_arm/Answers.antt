use Rattle.hay_filedisk.specs.Shelf.{arm_of, file_arms}
use Rattle.hay_filedisk.proofs.SameHeld.{same_held}
use Rattle.hay_filedisk.proofs.shelf.FileShelfShelf.take_arm.Goals as goal

pub returns-in_err-held-clause-refused : goal.returns-in_err-held-clause-refused
unfolding file_arms
returns-in_err-held-clause-refused g c = λ _. same_held arm_of _ _ c.in_err-held.ensures.err
