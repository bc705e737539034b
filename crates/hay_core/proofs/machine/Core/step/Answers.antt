use Rattle.hay_core.proofs.RunLaws.{step_keeps}
use Rattle.hay_core.proofs.machine.Core.step.Goals as goal

pub returns-clause-good : goal.returns-clause-good
returns-clause-good c g = step_keeps c.change_by.result _ _ c.args.event.now c.change_by.ensures.core c.change_by.ensures.err g
