use Rattle.std.proofs.Common.{◌≡◌, ◌+◌, ◌<◌, ℕ, suc, length, drop, sym, subst, ◌∙◌, arith}
use Rattle.std.specs.Prelude.{slice_index_or}
use Rattle.std.specs.Vec.Iter.{into_iter_items}
use Rattle.std.proofs.lemmas.Option.{slice_get_within}
use Rattle.hay_lane.proofs.Lists.{get_read}
use Rattle.hay_block.specs.Seats.{HasMore}
use Rattle.hay_block.proofs.Giving.{first_left, one_more}
use Rattle.hay_block.proofs.seating.give_seats.Goals as goal

pub loop-i-preserved : goal.loop-i-preserved
loop-i-preserved g c =
    let i : ℕ = c.loop-i.i in
    let next : suc i ≡ i + 1 = omega arith in
    let below : i < length c.loop-i.lanes = omega (arith, c.loop-i-test.true, c.loop-i.auto.lanes) in
    let first = first_left c.args.seats.items i c.in-Some.seat (into_iter_items c.next.new.self) (sym c.loop-i.invariant.left ∙ c.in-Some.ensures.items) in
    record {
      have = one_more HasMore c.args.lanes.now c.args.seats.items i c.loop-i.lanes c.loop-i.invariant.have below (slice_index_or c.loop-i.lanes i c.index-lanes-i.result)
          (get_read c.loop-i.lanes i c.index-lanes-i.result below) c.give_seat.new.lane c.in-Some.seat first.0 c.give_seat.ensures;
      left = subst (λ n. into_iter_items c.next.new.self ≡ drop n c.args.seats.items) next (sym first.1);
    }

pub returns-clause-seats : goal.returns-clause-seats
returns-clause-seats g c = record {
  many = c.loop-i.invariant.have.long;
  each = λ i l m seat at_l at_m at_s. c.loop-i.invariant.have.each i l m seat (let within = slice_get_within c.args.lanes.now i l at_l in omega (arith, within, c.loop-i-test.false)) at_l at_m at_s;
}
