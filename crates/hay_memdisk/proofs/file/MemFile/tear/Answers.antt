use Rattle.std.proofs.Common.{arith, length-take}
use Rattle.hay_disk.proofs.Steps.{changes_wider, changes_changes}
use Rattle.hay_memdisk.proofs.file.MemFile.tear.Goals as goal

pub returns-clause-changes : goal.returns-clause-changes
returns-clause-changes c =
    changes_changes _ _ _ _ _ (changes_wider _ _ _ _ _ _ (omega arith) (simp length-take (omega arith)) c.write.ensures.changes) c.ask.ensures.changes
