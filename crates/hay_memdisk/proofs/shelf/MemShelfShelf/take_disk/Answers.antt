use Rattle.hay_memdisk.specs.MemShelf.{mem_disks, mem_disk_in}
use Rattle.hay_memdisk.proofs.SlotLemmas.{same_slots}
use Rattle.hay_memdisk.proofs.shelf.MemShelfShelf.take_disk.Goals as goal

pub returns-in_err-disk-clause-refused : goal.returns-in_err-disk-clause-refused
unfolding mem_disks
returns-in_err-disk-clause-refused c = λ _. same_slots mem_disk_in _ _ c.in_err-disk.ensures.err
