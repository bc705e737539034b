use Rattle.std.proofs.Common.{sym, ◌∙◌, subst}
use Rattle.hay_script.specs.declared.Line.{Line}
use Rattle.hay_script.specs.Script.{IsWithin, IsWithinLine}
use Rattle.hay_run.proofs.Blocking.{block_same, in_lane, served_by}
use Rattle.hay_run.proofs.block.LaneBlock.take.Goals as goal

pub add-requires-clause-lane : goal.add-requires-clause-lane
add-requires-clause-lane c = (in_lane c.args.self.now.lanes c.requires.says.0 c.in-InLane.lane c.in-InLane.command (sym c.in-InLane.is ∙ c.requires.says.1)).0

pub add-requires-clause-served : goal.add-requires-clause-served
add-requires-clause-served c =
    let within : IsWithin c.in-InLane.command = subst (λ (l : Line). IsWithinLine l) c.in-InLane.is c.requires.within in
    served_by c.in-InLane.command within (in_lane c.args.self.now.lanes c.requires.says.0 c.in-InLane.lane c.in-InLane.command (sym c.in-InLane.is ∙ c.requires.says.1)).1

pub returns-in-Skip-clause-below : goal.returns-in-Skip-clause-below
returns-in-Skip-clause-below c = block_same c.args.number c.args.self.now c.requires.below

pub returns-in-End-clause-below : goal.returns-in-End-clause-below
returns-in-End-clause-below c = block_same c.args.number c.args.self.now c.requires.below
