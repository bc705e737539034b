use Rattle.hay_memdisk.specs.MemShelf.{mem_disks, mem_disk_in}
use Rattle.hay_memdisk.proofs.SlotLemmas.{same_slots}
use Rattle.hay_memdisk.proofs.shelf.MemShelf.put_disk.Goals as goal

pub returns-in_err-put-clause-refused : goal.returns-in_err-put-clause-refused
unfolding mem_disks
returns-in_err-put-clause-refused c = λ _. same_slots mem_disk_in _ _ c.in_err-put.ensures.err
