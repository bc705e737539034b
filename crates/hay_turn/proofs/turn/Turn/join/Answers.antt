use Rattle.std.proofs.Common.{length, rules, ap, ◌∙◌, arith, length-append}
use Rattle.hay_turn.proofs.Joining.{merges, looks}
use Rattle.hay_turn.proofs.turn.Turn.join.Goals as goal

pub join_seat-requires : goal.join_seat-requires
join_seat-requires g c = let r = c.requires in (search rules, search rules, search rules, search rules, merges _ _ _ _ _ _ _ r.idle.0 r.idle.1 r.some.0 r.some.1 r.next)

pub load-requires : goal.load-requires
load-requires g c = let r = c.requires in let j = c.join_seat.ensures.2 in let s = r.some.0 in let v = c.args.seat.me.0.owns in
    (search rules, search rules, looks _ _ _ _ _ _ (ap (λ m. m.0.stage) j ∙ r.idle.0) (omega (arith, ap (λ m. length m.0.owns) j, length-append v c.args.later.me.0.owns)))
