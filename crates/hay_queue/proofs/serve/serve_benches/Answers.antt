use Rattle.std.proofs.Common.{◌≡◌, ◌<◌, ◌++◌, take, drop, arith, Some, length, get_or, slice_get, rules, ap, sym, subst, ◌∙◌}
use Rattle.std.proofs.lemmas.List.{get_or_append_left, get_or-take}
use Rattle.std.proofs.lemmas.Option.{slice_get_read, slice_get_within, get_or_from_slice_get}
use Rattle.hay_queue.specs.Benches.{IsServed}
use Rattle.hay_queue.proofs.serve.serve_benches.Goals as goal

pub for_each_mut-requires-clause-accepts : goal.for_each_mut-requires-clause-accepts
for_each_mut-requires-clause-accepts g c κs within i p lt is =
    let at : slice_get c.as_mut_slice.result.now i ≡ Some p.now = slice_get_read c.as_mut_slice.result.now (length c.as_mut_slice.result.now) i p.now (λ k. length c.as_mut_slice.result.now) lt is in (
      (c.requires.ready i p.now (ap (λ l. slice_get l i) (sym c.as_mut_slice.ensures.value) ∙ at), c.requires.few, c.requires.stays),
      search rules,
    )

pub returns-clause-served : goal.returns-clause-served
returns-clause-served g c seat slot after at now =
    let inside = slice_get_within c.args.benches.items seat slot at in
    let lt : seat < length c.as_mut_slice.result.now = search rules in
    let change = (c.for_each_mut.ensures seat slot lt).1 in
    let was : get_or c.as_mut_slice.result.now seat slot ≡ slot = ap (λ l. get_or l seat slot) c.as_mut_slice.ensures.value ∙ get_or_from_slice_get c.args.benches.items seat slot slot at in
    let long : length c.for_each_mut.new.s ≡ length c.args.benches.items = search rules in
    let in_len : seat < c.args.benches.len = omega (arith, c.args.benches.ok) in
    let rest = drop (length c.for_each_mut.new.s) c.args.benches.items in
    let is : get_or c.for_each_mut.new.s seat slot ≡ after = sym (get_or_append_left c.for_each_mut.new.s rest slot seat (omega arith))
    ∙ (sym (get_or-take c.args.benches.len (c.for_each_mut.new.s ++ rest) seat slot in_len) ∙ get_or_from_slice_get (take c.args.benches.len (c.for_each_mut.new.s ++ rest)) seat after slot now) in
    subst (λ x. IsServed seat c.args.seats g.W.Work.answers c.args.jobs.now slot x) (change.left ∙ is)
    (subst (λ x. IsServed seat c.args.seats g.W.Work.answers c.args.jobs.now x change.after_call.now) (change.argument_is ∙ was) change.call)
