use Rattle.std.proofs.Common.{arith}
use Rattle.hay_memdisk.proofs.Written.{removes}
use Rattle.hay_memdisk.proofs.file.MemFile.remove.Goals as goal

pub returns-clause-removes : goal.returns-clause-removes
returns-clause-removes c = removes _ _ _ _ _ _ _ _ c.args.self.now.short c.clear.ensures.items c.clear-2.ensures.items (omega arith)
