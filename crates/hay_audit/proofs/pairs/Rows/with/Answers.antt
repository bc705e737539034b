use Rattle.std.proofs.Common.{List, ap, ◌∙◌}
use Rattle.hay_legal.specs.declared.known.HomeRow.{HomeRow}
use Rattle.hay_legal.specs.Known.{home_in}
use Rattle.hay_audit.proofs.Keyed.{homes_with}
use Rattle.hay_audit.proofs.pairs.Rows.with.Goals as goal

pub invariant_of-result : goal.invariant_of-result
invariant_of-result c =
    homes_with c.self.inside.homes.entries c.insert.new.self.entries c.self.inside.rows c.push.new.self c.args.row c.self.invariant
    (ap (λ (rows : List HomeRow). home_in rows c.args.row.pair) c.self.view_is ∙ c.requires) c.in_ok-push.ensures.ok (λ other. c.in_ok-insert.ensures.updates.0 (other.key, other.alt))
