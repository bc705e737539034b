use Rattle.std.proofs.Common.{refl}
use Rattle.hay_audit.proofs.Walking.{lanes_by, within_item}
use Rattle.hay_audit.proofs.judge.said_by.Goals as goal

pub returns-in-Lanes : goal.returns-in-Lanes
returns-in-Lanes c = lanes_by c.args.line c.in-Lanes.field-0 c.in-Lanes.is
