use Rattle.std.proofs.Common.{slice_get, rules, ap, sym, subst, ◌∙◌, ⊎_elim}
use Rattle.hay_queue.specs.Benches.{IsKit}
use Rattle.hay_queue.proofs.Counts.{got_or_last}
use Rattle.hay_queue.proofs.serve.kits_for.Goals as goal

pub loop-seat-preserved : goal.loop-seat-preserved
loop-seat-preserved g c = let i = c.loop-seat.invariant in let kit = c.in_ok-kit_for.field-0 in record {
  many = search rules;
  each = λ seat k at. ⊎_elim (λ h. i.each seat k h)
      (λ h. subst (λ x. IsKit seat c.args.seats c.args.jobs.now x) h.0 (subst (λ s. IsKit s c.args.seats c.args.jobs.now kit) (sym (h.1 ∙ search rules)) c.in_ok-kit_for.ensures))
      (got_or_last c.loop-seat.kits.items kit k seat (ap (λ l. slice_get l seat) (sym c.push_reserved.ensures.items) ∙ at));
  room = search rules;
}
