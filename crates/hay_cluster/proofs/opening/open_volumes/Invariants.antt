use Rattle.hay_cluster.specs.Draws.{DrawsVolume}
use Rattle.hay_cluster.specs.Opening.{OpensVolume}
use Rattle.hay_cluster.proofs.OpeningLists.{Gathered}
use Rattle.hay_cluster.proofs.opening.open_volumes.Given as goal

abbrev pub invariant-loop-number : goal.invariant-loop-number
invariant-loop-number g l =
    Gathered (λ old new notes. OpensVolume g.D.Disk.Tells g.D.Disk.files g.D.Piece.Piece.Tells g.D.Disk.fault_count g.D.Disk.fuse_count old new notes
    × (g.D.Disk.Tells → DrawsVolume g.D.Disk.files g.D.Disk.drawn old new)) l.number l.fn.volumes l.volumes l.notes.items
