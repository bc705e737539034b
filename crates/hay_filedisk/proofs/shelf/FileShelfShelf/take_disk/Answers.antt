use Rattle.hay_filedisk.specs.Shelf.{disk_of, file_disks}
use Rattle.hay_filedisk.proofs.SameHeld.{same_held}
use Rattle.hay_filedisk.proofs.shelf.FileShelfShelf.take_disk.Goals as goal

pub returns-in_err-held-clause-refused : goal.returns-in_err-held-clause-refused
unfolding file_disks
returns-in_err-held-clause-refused g c = λ _. same_held disk_of _ _ c.in_err-held.ensures.err
