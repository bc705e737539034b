use Rattle.std.proofs.Common.{◌≡◌, ℕ, ◌<◌, length}
use Rattle.std.specs.Prelude.{slice_index}
use Rattle.hay_physical.specs.OpenCopies.{Copy, end_of}
use Rattle.hay_logical.specs.Fits.{At}
use Rattle.hay_logical.proofs.replicas.ends_of.Given as goal

abbrev pub invariant-loop-j : goal.invariant-loop-j
invariant-loop-j g l = (length l.ends ≡ 4) × ((i : ℕ) (r : Copy g.row.D.Denot) → i < l.j → At l.replicas i r → slice_index l.ends i ≡ end_of r)
