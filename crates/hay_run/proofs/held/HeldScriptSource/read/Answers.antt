use Rattle.std.proofs.Common.{refl, arith}
use Rattle.hay_run.proofs.Holding.{next_part}
use Rattle.hay_run.proofs.held.HeldScriptSource.read.Goals as goal

pub returns-clause-took : goal.returns-clause-took
returns-clause-took c = (_, refl, next_part _ _ _ _ _ _ c.deref.ensures.value c.copy_from_slice.ensures.after (omega (arith, c.min-count.ensures, c.len.ensures)))
