use Rattle.std.proofs.Common.{rules, ◌+◌, ◌<◌, ℕ, List, ◌∷◌, [], length, sym, ap, subst, ◌∙◌, arith, length-append}
use Rattle.std.specs.Prelude.{slice_index_or, slice_set}
use Rattle.std.proofs.lemmas.Option.{slice_get_within}
use Rattle.hay_lane.proofs.Lists.{get_read}
use Rattle.hay_block.specs.Seats.{HasMore}
use Rattle.hay_block.proofs.Giving.{HaveBecome, more_added}
use Rattle.hay_block.proofs.seating.take_seats.Goals as goal

pub loop-i-preserved : goal.loop-i-preserved
loop-i-preserved g c =
    let i : ℕ = c.loop-i.i in
    let below : i < length c.loop-i.lanes = omega (arith, c.loop-i-test.true, c.loop-i.auto.lanes) in
    record {
      have = subst (λ (seats : List g.row.S.Denot). HaveBecome (λ seat old new. HasMore {S = g.row.S.Denot} {T = g.row.T.Denot} {A = g.row.A.Denot} seat new old) c.args.lanes.now seats (i + 1)
          (slice_set c.loop-i.lanes i c.take_seat-seat.new.lane)) (sym c.push_reserved.ensures.items)
          (more_added (λ seat old new. HasMore {S = g.row.S.Denot} {T = g.row.T.Denot} {A = g.row.A.Denot} seat new old) c.args.lanes.now c.loop-i.seats.items i c.loop-i.lanes
          c.loop-i.invariant.many c.loop-i.invariant.have below (slice_index_or c.loop-i.lanes i c.index-lanes-i.result)
          (get_read c.loop-i.lanes i c.index-lanes-i.result below) c.take_seat-seat.new.lane c.take_seat-seat.result c.take_seat-seat.ensures);
      many = let added = length-append c.loop-i.seats.items (c.take_seat-seat.result ∷ []) in ap length c.push_reserved.ensures.items ∙ omega (arith, added, c.loop-i.invariant.many);
      room = search rules;
    }

pub returns-clause-seats : goal.returns-clause-seats
returns-clause-seats g c = record {
  many = sym c.loop-i.invariant.have.long;
  each = λ i l m seat at_l at_m at_s. c.loop-i.invariant.have.each i m l seat (let within = slice_get_within c.args.lanes.now i m at_m in omega (arith, within, c.loop-i-test.false)) at_m at_l at_s;
}
