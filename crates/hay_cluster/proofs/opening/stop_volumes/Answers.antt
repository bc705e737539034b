use Rattle.std.proofs.Common.{ℕ, List, [], get_or, arith}
use Rattle.hay_logical.specs.Volumes.{Volume}
use Rattle.hay_cluster.specs.Draws.{StopsDrawing}
use Rattle.hay_cluster.specs.Opening.{StopsVolume}
use Rattle.hay_cluster.proofs.OpeningLists.{at_read, gathered_all, gathered_more, gathers_zip}
use Rattle.hay_cluster.proofs.opening.stop_volumes.Goals as goal

pub loop-volume-preserved : goal.loop-volume-preserved
loop-volume-preserved g c =
    let stops = c.stop.ensures in
    gathered_more (λ (old new : Volume g.row.D.Denot g.row.D-Piece.Denot) (none : List ℕ).
    StopsVolume g.D.Disk.Tells g.D.Disk.files g.D.Piece.Piece.Tells g.D.Disk.fault_count g.D.Disk.fuse_count old new × (g.D.Disk.Tells → StopsDrawing g.D.Disk.drawn old new))
    c.loop-volume.volume-index c.args.volumes.now c.loop-volume.volumes [] (get_or c.loop-volume.volumes c.loop-volume.volume-index c.volume-item.result) c.stop.new.self [] c.loop-volume.invariant
    (at_read c.loop-volume.volumes c.loop-volume.volume-index c.volume-item.result (omega arith)) (
      record { same = stops.same; count = stops.all; counts = stops.counts; unsure = stops.unsure; closed = stops.closed; idle = stops.idle; stopped = stops.stopped },
      λ tells. record { unsure = stops.unsure; nothing = stops.drawn tells },
    )

pub returns-clause-stops : goal.returns-clause-stops
returns-clause-stops g c =
    let R =
    λ (old new : Volume g.row.D.Denot g.row.D-Piece.Denot) (none : List ℕ). StopsVolume g.D.Disk.Tells g.D.Disk.files g.D.Piece.Piece.Tells g.D.Disk.fault_count
    g.D.Disk.fuse_count old new × (g.D.Disk.Tells → StopsDrawing g.D.Disk.drawn old new) in
    gathers_zip R (StopsVolume g.D.Disk.Tells g.D.Disk.files g.D.Piece.Piece.Tells g.D.Disk.fault_count g.D.Disk.fuse_count) c.args.volumes.now c.loop-volume.volumes [] (λ x y more r. r.0)
    (gathered_all R c.loop-volume.volume-index c.args.volumes.now c.loop-volume.volumes [] c.loop-volume.invariant (omega arith))

pub returns-clause-drawn : goal.returns-clause-drawn
returns-clause-drawn g c = λ tells.
    let R =
    λ (old new : Volume g.row.D.Denot g.row.D-Piece.Denot) (none : List ℕ). StopsVolume g.D.Disk.Tells g.D.Disk.files g.D.Piece.Piece.Tells g.D.Disk.fault_count
    g.D.Disk.fuse_count old new × (g.D.Disk.Tells → StopsDrawing g.D.Disk.drawn old new) in
    gathers_zip R (StopsDrawing g.D.Disk.drawn) c.args.volumes.now c.loop-volume.volumes [] (λ x y more r. r.1 tells)
    (gathered_all R c.loop-volume.volume-index c.args.volumes.now c.loop-volume.volumes [] c.loop-volume.invariant (omega arith))
