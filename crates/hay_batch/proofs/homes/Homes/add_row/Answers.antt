use Rattle.std.proofs.Common.{ap, sym, ◌∙◌}
use Rattle.hay_batch.specs.Homes.{home_among}
use Rattle.hay_batch.proofs.HomeLaws.{row_added}
use Rattle.hay_batch.proofs.homes.Homes.add_row.Goals as goal

pub returns : goal.returns
returns c =
    let old = c.self.inside.volumes.entries in
    rw (← c.self.view_is) (row_added old c.insert.new.self.entries c.args.row c.get.result c.is_some.result
    (c.get.ensures ∙ ap (λ h. home_among h c.args.row.pair) (sym c.self.view_is)) c.is_some.ensures c.if-is_some.false
    (λ other. c.in_ok-insert.ensures.updates.0 (other.key, other.alt)))
