-- Replies have numbers of their fields' types.
use Rattle.std.proofs.Common.{List, [], ◌∷◌, ◌++◌, map}
use Rattle.std.specs.List.{AllByRecursion}
use Rattle.hay_reply.specs.declared.ClosedBy.{ClosedBy}
use Rattle.hay_reply.specs.Fits.{FitsClosed, FitsRefused}
use Rattle.hay_legal.specs.Plain.{as_closed}

pub all_snoc : {X : Type 0} (P : X → Type 0) (xs : List X) (x : X) → AllByRecursion P xs → P x → AllByRecursion P (xs ++ x ∷ [])
all_snoc P [] x all here = (here, tt)
all_snoc P (y ∷ xs) x all here = (all.0, all_snoc P xs x all.1 here)

pub closed_fit : (closed : List ClosedBy) → AllByRecursion FitsRefused (map as_closed closed) → AllByRecursion FitsClosed closed
closed_fit [] all = tt
closed_fit (by ∷ closed) all = (all.0, closed_fit closed all.1)
