use Rattle.std.proofs.Common.{[], ◌∷◌, ◌++◌, List, length, sym, ap, ◌∙◌, arith}
use Rattle.std.specs.Prelude.{reverse}
use Rattle.std.proofs.lemmas.List.{append-nil, append_assoc, length-append}
use Rattle.hay_cluster.proofs.OpeningFill.{reverse-snoc}
use Rattle.hay_cluster.proofs.opening.seats_of.Goals as goal

pub loop-arm-init : goal.loop-arm-init
loop-arm-init g c =
    let none = c.in-Ok.ensures.items in
    let long = ap (λ (l : List g.row.A.Denot). length l) none in
    record {
      items = sym (ap (λ (l : List g.row.A.Denot). c.args.arms.items ++ reverse l) none ∙ append-nil c.args.arms.items);
      room = omega (arith, long, c.args.arms.ok.0, c.args.arms.ok.1);
      spare = omega (arith, long, c.in-Ok.ensures.exact, c.len.ensures, c.args.arms.ok.0);
    }

pub loop-arm-preserved : goal.loop-arm-preserved
loop-arm-preserved g c =
    let arms = (c.in-Some.ensures).items in
    let seats = c.push_reserved.ensures.items in
    let fewer = ap (λ (l : List g.row.A.Denot). length l) arms ∙ length-append c.pop.new.self.items (c.in-Some.arm ∷ []) in
    let more = ap (λ (l : List g.row.A.Denot). length l) seats ∙ length-append c.loop-arm.seats.items (c.in-Ok-new.seat ∷ []) in
    record {
      items =
          c.loop-arm.invariant.items ∙ ap (λ (l : List g.row.A.Denot). l ++ reverse c.loop-arm.seats.items) arms
          ∙ append_assoc c.pop.new.self.items (c.in-Some.arm ∷ []) (reverse c.loop-arm.seats.items)
          ∙ ap (λ (a : g.row.A.Denot). c.pop.new.self.items ++ (a ∷ reverse c.loop-arm.seats.items)) (sym c.in-Ok-new.ensures.ok)
          ∙ ap (λ (l : List g.row.A.Denot). c.pop.new.self.items ++ l) (sym (ap (λ (l : List g.row.A.Denot). reverse l) seats ∙ reverse-snoc c.loop-arm.seats.items c.in-Ok-new.seat));
      room = omega (arith, fewer, more, c.loop-arm.invariant.room, (c.in-Some.ensures).capacity);
      spare = omega (arith, fewer, more, c.loop-arm.invariant.spare, c.push_reserved.ensures.capacity);
    }
