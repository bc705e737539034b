use Rattle.std.proofs.Common.{◌≡◌, ◌∷◌, ◌≤◌, ◌+◌, length, subst, sym, ap, ◌∙◌, arith, ℕ}
use Rattle.std.specs.Prelude.{◌^◌}
use Rattle.std.specs.Map.Iter.{deref_pair}
use Rattle.std.proofs.lemmas.Map.Iter.{rest_more}
use Rattle.hay_needle.specs.Sizes.{needle_total}
use Rattle.hay_audit.proofs.ByPair.{few_more, total_more, total_small}
use Rattle.hay_audit.proofs.table.live_end_of.Goals as goal

pub loop-pair-preserved : goal.loop-pair-preserved
loop-pair-preserved c =
    let first : c.loop-pair._pair-iterator ≡ (c.in-Some._pair.now, c.in-Some.photo.now) ∷ c.next.new.self =
    rest_more deref_pair c.loop-pair._pair-iterator c.next.new.self c.next.result (c.in-Some._pair, c.in-Some.photo) c.in-Some.is c.next.ensures.steps in
    let total : c.total_of-end.result ≡ needle_total (length (c.in-Some.photo.now).bytes) = c.total_of-end.ensures ∙ ap (λ (n : ℕ). needle_total n) c.len.ensures in
    record {
      total = total_more c.loop-pair._pair-iterator c.next.new.self c.in-Some._pair.now c.in-Some.photo.now c.loop-pair.end c.total_of-end.result _ first total c.loop-pair.invariant.total;
      few = few_more c.loop-pair._pair-iterator c.next.new.self c.in-Some._pair.now c.in-Some.photo.now c.loop-pair.end c.total_of-end.result _ first
          (subst (λ (n : ℕ). n ≤ 2 ^ 64 + 64) (sym c.total_of-end.ensures) (total_small c.len.result (omega arith))) c.loop-pair.invariant.few;
    }
