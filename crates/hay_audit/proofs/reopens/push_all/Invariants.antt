use Rattle.std.proofs.Common.{◌≡◌, ◌∷◌, ◌++◌, [], flat_map}
use Rattle.std.specs.Prelude.{map}
use Rattle.hay_audit.specs.Choosing as choosing
use Rattle.hay_audit.proofs.reopens.push_all.Given as goal

abbrev pub invariant-loop-front : goal.invariant-loop-front
invariant-loop-front l =
    l.made ++ flat_map (λ front. map (choosing.behind front) l.fn.choices) (l.front-iterator.rest.items ++ ((l.last-inside).items).items ∷ [])
    ≡ flat_map (λ front. map (choosing.behind front) l.fn.choices) l.fn.fronts
