use Rattle.std.proofs.Common.{◌≡◌, ◌∷◌, ◌++◌, drop}
use Rattle.std.specs.Prelude.{map}
use Rattle.hay_audit.proofs.del.onto_each.Given as goal

abbrev pub invariant-loop-choice : goal.invariant-loop-choice
invariant-loop-choice l = l.out ++ map (λ rest. l.ended ∷ rest) (drop l.choice-index l.choices) ≡ l.fn.out ++ map (λ rest. l.ended ∷ rest) l.choices
