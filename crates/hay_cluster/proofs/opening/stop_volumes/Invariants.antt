use Rattle.std.proofs.Common.{ℕ, List, []}
use Rattle.hay_cluster.specs.Draws.{StopsDrawing}
use Rattle.hay_cluster.specs.Opening.{StopsVolume}
use Rattle.hay_cluster.proofs.OpeningLists.{Gathered}
use Rattle.hay_cluster.proofs.opening.stop_volumes.Given as goal

-- nothing is gathered
abbrev pub invariant-loop-volume : goal.invariant-loop-volume
invariant-loop-volume g l =
    Gathered (λ old new (none : List ℕ). StopsVolume g.D.Disk.Tells g.D.Disk.files g.D.Piece.Piece.Tells g.D.Disk.fault_count g.D.Disk.fuse_count old new
    × (g.D.Disk.Tells → StopsDrawing g.D.Disk.drawn old new)) l.volume-index l.fn.volumes l.volumes []
