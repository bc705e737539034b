use Rattle.std.proofs.Common.{◌≡◌, ◌≤◌, ℕ, Some, None}
use Rattle.hay_legal.specs.declared.known.Run.{Run}
use Rattle.hay_legal.specs.declared.known.VolumeKnown.{VolumeKnown}
use Rattle.hay_legal.specs.Known.{replica_at}
use Rattle.hay_logical.specs.Answers.{StandsStepped}
use Rattle.hay_logical.specs.Fits.{At}
use Rattle.hay_logical.specs.Stands.{IsTightAt, Stands}
use Rattle.hay_logical.specs.Volumes.{IsOpenVolume, IsSame, KeepsCounts}
use Rattle.hay_physical.specs.OpenCopies.{Copy}
use Rattle.hay_volume_lock.proofs.compactions.examine.Given as goal

abbrev pub invariant-loop-examined : goal.invariant-loop-examined
invariant-loop-examined g l = record {
  told : g.D.Disk.Tells → (k : VolumeKnown) (run : Run) → Stands g.D.Disk.files g.D.Piece.Piece.Tells l.fn.logical k → k.frozen ≡ None → (replica_at k l.replica).run ≡ Some run
      → (l.examined ≤ run.left) × StandsStepped g.D.Disk.files g.D.Piece.Piece.Tells k l.replica run l.examined l.logical;
  tight : g.D.Disk.Tells → (k : VolumeKnown) (run : Run) → Stands g.D.Disk.files g.D.Piece.Piece.Tells l.fn.logical k → k.frozen ≡ None → (replica_at k l.replica).run ≡ Some run
      → (j : ℕ) → IsTightAt g.D.Disk.files l.fn.logical j → IsTightAt g.D.Disk.files l.logical j;
  others : (j : ℕ) → (j ≡ l.replica → ⊥) → (r r' : Copy g.row.D.Denot) → At l.fn.logical.replicas j r → At l.logical.replicas j r' → r' ≡ r;
  still : l.logical ≡ record l.fn.logical { replicas = l.logical.replicas };
  is_open : IsOpenVolume l.logical;
  counts : KeepsCounts g.D.Disk.fault_count g.D.Disk.fuse_count l.fn.logical.replicas l.logical.replicas;
  same : IsSame l.fn.logical l.logical;
}
