use Rattle.std.proofs.Common.{arith}
use Rattle.std.proofs.lemmas.Grind.{common_steps}
use Rattle.hay_memdisk.proofs.Written.{changes_written}
use Rattle.hay_memdisk.proofs.file.MemFile.write.Goals as goal

pub returns-clause-changes : goal.returns-clause-changes
returns-clause-changes c =
    changes_written _ _ _ _ _ _ _ _ _ _ c.requires c.in_ok-put.ensures.written
    (λ k out. grind (arith, common_steps, c.mark.ensures.others k out, c.in_ok-grow.ensures.same k))
    c.max-self.ensures
