use Rattle.std.proofs.Common.{◌≡◌, ◌∷◌, ◌++◌, []}
use Rattle.std.specs.Prelude.{map}
use Rattle.hay_audit.specs.Choosing as choosing
use Rattle.hay_audit.proofs.reopens.with_stores.Given as goal

abbrev pub invariant-loop-store : goal.invariant-loop-store
invariant-loop-store l = l.made ++ map (choosing.stored_box l.frame) (l.store-iterator.rest.items ++ l.last ∷ []) ≡ map (choosing.stored_box l.frame) l.fn.stores
