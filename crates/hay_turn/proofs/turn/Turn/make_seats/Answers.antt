use Rattle.std.proofs.Common.{◌≡◌, ◌+◌, [], rules, sym, ap, subst, ◌∙◌, arith}
use Rattle.hay_turn.specs.Ruled.{later_seats, first_seat}
use Rattle.hay_turn.specs.Seats.{seat_state, AreNew}
use Rattle.hay_turn.proofs.NewSeats.{fresh_splits, next_fresh, last_fresh, a_seat, push_new}
use Rattle.hay_turn.proofs.turn.Turn.make_seats.Goals as goal

pub split_seat-token-requires : goal.split_seat-token-requires
split_seat-token-requires g c = let i = c.loop-i.invariant in (search rules, search rules, fresh_splits _ _ _ _ _ _ _ _ _ i.1 c.loop-i-test.true)

pub of-requires : goal.of-requires
of-requires g c = let i = c.loop-i.invariant in let v = c.args.maker.me.0 in
    let me = c.split_seat-token.ensures.4 ∙ (ap (λ m. (first_seat m.0, [])) i.1 ∙ (λ k. ((next_fresh v.origin v.start c.args.seats c.loop-i.i c.loop-i-test.true).1 k, []))) in
    a_seat _ c.requires.start.0 (ap (λ m. m.0.owns) me) (ap (λ m. m.0.start) me ∙ c.requires.start.1) (ap (λ m. m.0.made) me) (ap (λ m. m.0.stage) me) (ap (λ m. m.1) me)

pub loop-i-preserved : goal.loop-i-preserved
loop-i-preserved g c =
    let i = c.loop-i.invariant in let v = c.args.maker.me.0 in let split = c.split_seat-token.ensures in let next = next_fresh v.origin v.start c.args.seats c.loop-i.i c.loop-i-test.true in
    let p = c.push_reserved.ensures in
    let me = split.4 ∙ (ap (λ m. (first_seat m.0, [])) i.1 ∙ (λ k. (next.1 k, []))) in (
      split.0 ∙ i.0,
      split.2 ∙ (ap (λ m. (later_seats m.0, m.1)) i.1 ∙ (λ k. (next.0 k, []))),
      search rules,
      search rules,
      subst (AreNew c.args.maker.table_id v.start c.args.seats) (sym p.items) (push_new _ _ _ c.loop-i.i _ _ i.4 i.2 (c.of.ensures ∙ (λ k. seat_state ((split.3 ∙ i.0) k) (me k).0))),
    )

pub returns : goal.returns
returns g c =
    let i = c.loop-i.invariant in let v = c.args.maker.me.0 in let p = c.push_reserved-2.ensures in let some_seat = c.requires.some in let last = c.loop-i-test.false in
    let low = c.loop-i.auto.i-end in
    let z : c.args.seats ≡ c.loop-i.i + 1 = omega arith in let l = last_fresh v.origin v.start c.args.seats c.loop-i.i z _ i.1 c.args.maker.table_id in record {
      len = search rules;
      new = subst (λ t. AreNew t v.start c.args.seats c.push_reserved-2.new.self.items) c.requires.own
          (subst (AreNew c.args.maker.table_id v.start c.args.seats) (sym p.items) (push_new _ _ _ c.loop-i.i _ _ i.4 i.2 (c.of-2.ensures ∙ ((λ k. seat_state (i.0 k) c.loop-i.maker.me.0) ∙ l.1))));
    }
