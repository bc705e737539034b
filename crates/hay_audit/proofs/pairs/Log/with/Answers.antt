use Rattle.hay_audit.proofs.Keyed.{last_with}
use Rattle.hay_audit.proofs.pairs.Log.with.Goals as goal

pub invariant_of-result : goal.invariant_of-result
invariant_of-result c =
    last_with c.self.inside.last.entries c.insert.new.self.entries c.self.inside.entries c.push.new.self c.args.logged c.pair_of-pair.result c.len-at.result c.self.invariant
    c.pair_of-pair.ensures c.len-at.ensures
    c.in_ok-push.ensures.ok (λ other. c.in_ok-insert.ensures.updates.0 (other.key, other.alt))
