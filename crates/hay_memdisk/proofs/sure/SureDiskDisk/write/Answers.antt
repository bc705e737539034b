use Rattle.std.proofs.Common.{arith}
use Rattle.std.proofs.lemmas.Bool.Decides.{nat_tests}
use Rattle.hay_memdisk.proofs.sure.SureDiskDisk.write.Goals as goal

pub returns-in_err-open-clause-no_memory : goal.returns-in_err-open-clause-no_memory
returns-in_err-open-clause-no_memory c = λ _ _. (c.open.ensures.same, grind (arith, nat_tests, c.in_err-open.ensures.absent, c.if-is_empty.ensures))
