use Rattle.std.proofs.Common.{◌≡◌, ℕ, ◌<◌, Some, length}
use Rattle.std.specs.Prelude.{slice_get}
use Rattle.hay_physical.specs.OpenCopies.{Copy, end_of}
use Rattle.hay_logical.specs.Fits.{At}
use Rattle.hay_logical.specs.Notes.{keeps}
use Rattle.hay_logical.specs.Sights.{sights_of}
use Rattle.hay_logical.proofs.notes.kept_in.Given as goal

abbrev pub invariant-loop-j : goal.invariant-loop-j
invariant-loop-j g l = record {
  count : length l.kept.items ≡ l.j;
  each : (i : ℕ) (r : Copy g.row.D.Denot) → i < l.j → At l.replicas i r → slice_get l.kept.items i ≡ Some (keeps l.change (sights_of l.rows) i (end_of r));
}
