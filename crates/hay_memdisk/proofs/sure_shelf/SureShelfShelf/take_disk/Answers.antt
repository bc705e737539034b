use Rattle.hay_memdisk.specs.SureShelf.{sure_disks, sure_disk_in}
use Rattle.hay_memdisk.proofs.SlotLemmas.{same_slots}
use Rattle.hay_memdisk.proofs.sure_shelf.SureShelfShelf.take_disk.Goals as goal

pub returns-in_err-disk-clause-refused : goal.returns-in_err-disk-clause-refused
unfolding sure_disks
returns-in_err-disk-clause-refused c = λ _. same_slots sure_disk_in _ _ c.in_err-disk.ensures.err
