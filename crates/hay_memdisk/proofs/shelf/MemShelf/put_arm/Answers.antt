use Rattle.hay_memdisk.specs.Held.{arm_in}
use Rattle.hay_memdisk.specs.MemShelf.{mem_arms}
use Rattle.hay_memdisk.proofs.SlotLemmas.{same_slots}
use Rattle.hay_memdisk.proofs.shelf.MemShelf.put_arm.Goals as goal

pub returns-in_err-put-clause-refused : goal.returns-in_err-put-clause-refused
unfolding mem_arms
returns-in_err-put-clause-refused c = λ _. same_slots arm_in _ _ c.in_err-put.ensures.err
