use Rattle.std.proofs.Common.{refl, sym, ap, ◌∙◌, filter, length}
use Rattle.hay_front.specs.Fronts.{witness}
use Rattle.hay_front.proofs.front.Front.new.Goals as goal

pub invariant_of-front : goal.invariant_of-front
invariant_of-front g c = let k = g.T.View in let made = c.in_ok-pair.ensures in let same = c.in-Ok.ensures.0 in let known = c.known-shown.ensures.same in
    record {
      there = (c.in-Ok.pair, refl, ap (λ p. witness p.shown.seen.book p.shown.seen.log) same ∙ made.0, λ _. ap (λ p. p.pending) same ∙ made.1);
      whole = λ _. sym known;
      log_is = ap length c.new.ensures.items ∙ ap (λ ds. length (filter k.is_counted ds)) (sym (ap (λ w. w.deeds) known ∙ c.in_ok-history.ensures.3));
    }
