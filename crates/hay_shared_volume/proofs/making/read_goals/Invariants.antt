use Rattle.std.proofs.Common.{◌≡◌, ◌≤◌, ◌<◌, ℕ, Some}
use Rattle.hay_needle.specs.declared.settings.TheConstants.{LAST_GENERATION}
use Rattle.hay_legal.specs.declared.known.Run.{Run}
use Rattle.hay_legal.specs.declared.known.VolumeKnown.{VolumeKnown}
use Rattle.hay_legal.specs.Known.{replica_at}
use Rattle.hay_logical.specs.Stands.{Stands}
use Rattle.hay_shared_volume.proofs.making.read_goals.Given as goal

abbrev pub invariant-loop-replica : goal.invariant-loop-replica
invariant-loop-replica g l = g.D.Disk.Tells → (k : VolumeKnown) → Stands g.D.Disk.files g.D.Piece.Piece.Tells l.volume k → (j : ℕ) → j < l.replica →
    (run : Run) → (replica_at k j).run ≡ Some run → run.goal ≤ LAST_GENERATION
