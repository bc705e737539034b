use Rattle.std.proofs.Common.{◌≡◌, ◌++◌, ◌∷◌, [], ap, ◌∙◌, sym, arith, drop, reverse}
use Rattle.hay_cluster_block.proofs.Rising.{taken_next}
use Rattle.hay_cluster_block.proofs.arms.apart.Goals as goal

pub loop-preserved : goal.loop-preserved
loop-preserved g c =
    let turned : reverse (drop c.loop.counter c.args.arms.items) ≡ c.pop.new.self.items ++ c.in-Some.arm ∷ [] = sym c.loop.invariant.rest ∙ c.in-Some.ensures.items in
    let next = taken_next c.loop.counter c.args.arms.items c.pop.new.self.items c.in-Some.arm turned in
    record {
      first = c.push_reserved.ensures.items ∙ (ap (λ z. z ++ c.in-Some.arm ∷ []) c.loop.invariant.first ∙ sym next.0);
      rest = next.1;
      count = omega (arith, c.push_reserved.ensures.len, c.loop.invariant.count);
      room = omega (arith, c.push_reserved.ensures.capacity, c.loop.invariant.room);
      wide = omega (arith, c.pop.ensures.capacity, c.loop.invariant.wide);
    }
