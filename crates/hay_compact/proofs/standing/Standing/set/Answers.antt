use Rattle.std.proofs.Common.{sym, Some}
use Rattle.hay_compact.specs.Standing.{last_in}
use Rattle.hay_compact.proofs.StandingLaws.{last_set}
use Rattle.hay_compact.proofs.standing.Standing.set.Goals as goal

pub returns : goal.returns
unfolding last_in
returns c = λ other.
    last_set c.args.self.now c.self.inside.cells.entries c.insert.new.self.entries c.args.pair other (Some c.args.last) (sym c.self.view_is) (c.in-Ok.ensures.updates.0 other)
