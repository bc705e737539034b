use Rattle.std.proofs.Common.{◌≡◌, length, arith, sym, ◌∙◌}
use Rattle.hay_audit.proofs.Endings.{left_none}
use Rattle.hay_audit.proofs.del.ended_where.Goals as goal

pub returns : goal.returns
returns c =
    let h = c.in-None.ensures.steps in
    let none : length c.loop-replica.replica-iterator.rest.items ≡ 0 = omega (arith, c.loop-replica.replica-iterator.rest.ok, h.0) in
    sym (left_none c.loop-replica.after c.loop-replica.left.now c.loop-replica.replica-iterator.rest.items none) ∙ c.loop-replica.invariant
