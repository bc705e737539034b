use Rattle.std.proofs.Common.{sym, ◌∙◌}
use Rattle.hay_compact.specs.Standing.{last_in}
use Rattle.hay_compact.proofs.StandingLaws.{room_made}
use Rattle.hay_compact.proofs.standing.Standing.reserve.Goals as goal

pub returns-in_ok-insert-clause-same : goal.returns-in_ok-insert-clause-same
unfolding last_in
returns-in_ok-insert-clause-same c = λ other.
    room_made c.args.self.now c.self.inside.cells.entries c.insert.new.self.entries c.args.pair other (sym c.self.view_is) (sym c.contains_key.ensures ∙ c.if-not-contains_key.true)
    (c.in_ok-insert.ensures.updates.0 other)
