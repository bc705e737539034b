use Rattle.std.proofs.Common.{◌≡◌, ℕ, ◌+◌, List, [], ◌∷◌, drop, drop_of_length-le, flat_map, get_or, sym, ap, ◌∙◌, arith}
use Rattle.std.proofs.lemmas.List.{drop_more}
use Rattle.hay_reply.specs.declared.Refused.{Refused}
use Rattle.hay_audit_steps.specs.Rooms.{all_refused_at}
use Rattle.hay_audit.proofs.Cutting.{refused_none, refused_on}
use Rattle.hay_audit.proofs.Reopened.{at_place}
use Rattle.hay_audit.proofs.rooms.all_refused_at.Goals as goal

pub loop-i-preserved : goal.loop-i-preserved
loop-i-preserved c = (
  refused_on c.args.settings.now c.args.size c.loop-i.i c.args.tries.now c.args.refused.now c.loop-i.states c.in_ok-states-2.states _ _ c.loop-i-test.true (c.loop-i.invariant).1
      c.in_ok-states-2.ensures (c.loop-i.invariant).0,
  (c.loop-i.invariant).1,
)

pub returns : goal.returns
returns c =
    sym (refused_none c.args.settings.now c.args.size c.loop-i.states)
    ∙ ap (λ (vs : List ℕ). flat_map (all_refused_at c.args.settings.now c.args.size vs []) c.loop-i.states)
    (sym (drop_of_length-le c.args.tries.now (omega (arith, c.loop-i-test.false, (c.loop-i.invariant).1))))
    ∙ ap (λ (rs : List Refused). flat_map (all_refused_at c.args.settings.now c.args.size (drop c.loop-i.i c.args.tries.now) rs) c.loop-i.states)
    (sym (drop_of_length-le c.args.refused.now (omega (arith, c.loop-i-test.false))))
    ∙ (c.loop-i.invariant).0
