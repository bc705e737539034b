use Rattle.std.proofs.Common.{◌≡◌, ◌∷◌, ◌++◌, [], map}
use Rattle.hay_audit.specs.Choosing as choosing
use Rattle.hay_audit.proofs.parts.push_each.Given as goal

abbrev pub invariant-loop-choice : goal.invariant-loop-choice
invariant-loop-choice g l = l.out ++ map (choosing.behind l.fn.front) (l.choice-iterator.rest.items ++ l.last ∷ []) ≡ l.fn.out ++ map (choosing.behind l.fn.front) l.fn.choices
