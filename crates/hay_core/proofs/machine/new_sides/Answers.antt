use Rattle.std.proofs.Common.{◌++◌, ◌∷◌, [], List, ap, ◌∙◌}
use Rattle.hay_core.specs.declared.machine.Side.{Side}
use Rattle.hay_core.specs.Transitions.{new_side}
use Rattle.std.specs.Prelude.{replicate}
use Rattle.hay_core.proofs.Lists.{replicate_more}
use Rattle.hay_core.proofs.machine.new_sides.Goals as goal

pub loop-preserved : goal.loop-preserved
loop-preserved c =
    c.in_ok-push.ensures.ok
    ∙ ap (λ (xs : List Side). xs ++ c.new_side.result ∷ []) c.loop.invariant
    ∙ ap (λ (s : Side). replicate c.loop.counter new_side ++ s ∷ []) c.new_side.ensures
    ∙ replicate_more c.loop.counter new_side
