use Rattle.hay_lines.proofs.Taking.{range_later}
use Rattle.hay_lines.proofs.bytes.ScriptBytes.pass.Goals as goal

pub returns-clause-bytes : goal.returns-clause-bytes
returns-clause-bytes c =
    let inside = c.self.inside in
    rw (← c.self.view_is) (range_later inside.buffer inside.from inside.to c.args.count c.self.invariant.0 (rw (← c.self.view_is) at c.requires))
