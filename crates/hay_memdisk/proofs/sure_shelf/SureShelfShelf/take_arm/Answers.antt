use Rattle.hay_memdisk.specs.Held.{arm_in}
use Rattle.hay_memdisk.specs.SureShelf.{sure_arms}
use Rattle.hay_memdisk.proofs.SlotLemmas.{same_slots}
use Rattle.hay_memdisk.proofs.sure_shelf.SureShelfShelf.take_arm.Goals as goal

pub returns-in_err-arm-clause-refused : goal.returns-in_err-arm-clause-refused
unfolding sure_arms
returns-in_err-arm-clause-refused c = λ _. same_slots arm_in _ _ c.in_err-arm.ensures.err
