use Rattle.std.proofs.Common.{◌≡◌, ◌+◌, ◌++◌, ◌∷◌, [], List, length, sym, ap, ◌∙◌, arith}
use Rattle.std.proofs.lemmas.List.{append-nil, length-append, nil_from_length}
use Rattle.std.specs.Prelude.{reverse}
use Rattle.hay_cluster.proofs.OpeningFill.{turned}
use Rattle.hay_cluster.proofs.opening.unseated.Goals as goal

pub loop-seat-preserved : goal.loop-seat-preserved
loop-seat-preserved g c =
    let seats = (c.in-Some.ensures).items in
    let long : length c.loop-seat.seats.items ≡ length c.pop.new.self.items + 1 = ap (λ (l : List g.row.A.Denot). length l) seats ∙ length-append c.pop.new.self.items (c.in-Some.seat ∷ []) in
    record {
      items = c.loop-seat.invariant.items ∙ turned c.loop-seat.arms.items c.loop-seat.seats.items c.pop.new.self.items c.in-Some.seat seats
          ∙ ap (λ (a : g.row.A.Denot). (c.loop-seat.arms.items ++ a ∷ []) ++ reverse c.pop.new.self.items) (sym c.into_arm.ensures)
          ∙ ap (λ (l : List g.row.A.Denot). l ++ reverse c.pop.new.self.items) (sym c.push_reserved.ensures.items);
      room = let more = ap (λ (l : List g.row.A.Denot). length l) c.push_reserved.ensures.items ∙ length-append c.loop-seat.arms.items (c.into_arm.result ∷ []) in
          omega (arith, long, more, c.loop-seat.invariant.room, c.push_reserved.ensures.capacity);
    }

pub returns : goal.returns
returns g c =
    let none : c.loop-seat.seats.items ≡ [] = nil_from_length c.loop-seat.seats.items (let no = (c.in_default.ensures).cases in omega (arith, no.0, c.loop-seat.seats.ok.0)) in
    sym (c.loop-seat.invariant.items ∙ ap (λ (l : List g.row.A.Denot). c.loop-seat.arms.items ++ reverse l) none ∙ append-nil c.loop-seat.arms.items)
