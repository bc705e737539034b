use Rattle.std.proofs.Common.{List, ◌+◌, ◌<◌, get_or, sym, subst, arith}
use Rattle.std.specs.Prelude.{slice_set}
use Rattle.std.proofs.lemmas.Result.{err_from_is_err_and}
use Rattle.hay_logical.specs.Stands.{IsIdleVolume}
use Rattle.hay_reply.specs.declared.Note.{Note}
use Rattle.hay_logical.specs.Volumes.{IsClosed, Volume}
use Rattle.hay_cluster.specs.Draws.{DrawsVolume}
use Rattle.hay_cluster.specs.Opening.{LeavesVolume, OpensVolume, RefusesVolumes}
use Rattle.hay_cluster.specs.Store.{IsVolumeOf}
use Rattle.hay_cluster.proofs.Lists.{AllByRecursion-at, InOrder-get}
use Rattle.hay_cluster.proofs.OpeningDraws.{gathered_less, gathers_less}
use Rattle.hay_cluster.proofs.OpeningLists.{Gathered, at_read, each_told, gathered_all, gathered_more, gathered_none, gathered_was, gathers_zip, passed_on, passed_ok}
use Rattle.hay_cluster.proofs.OpeningVolumes.{moved_at, refused_at}
use Rattle.hay_cluster.proofs.opening.open_volumes.Goals as goal

pub loop-number-init : goal.loop-number-init
loop-number-init g c =
    let R =
    λ (old new : Volume g.row.D.Denot g.row.D-Piece.Denot) (notes : List Note). OpensVolume g.D.Disk.Tells g.D.Disk.files g.D.Piece.Piece.Tells g.D.Disk.fault_count
    g.D.Disk.fuse_count old new notes × (g.D.Disk.Tells → DrawsVolume g.D.Disk.files g.D.Disk.drawn old new) in
    subst (λ l. Gathered R 0 c.args.volumes.now c.args.volumes.now l) (sym c.new-notes.ensures.items) (gathered_none R c.args.volumes.now)

pub loop-number-preserved : goal.loop-number-preserved
loop-number-preserved g c =
    let R =
    λ (old new : Volume g.row.D.Denot g.row.D-Piece.Denot) (notes : List Note). OpensVolume g.D.Disk.Tells g.D.Disk.files g.D.Piece.Piece.Tells g.D.Disk.fault_count
    g.D.Disk.fuse_count old new notes × (g.D.Disk.Tells → DrawsVolume g.D.Disk.files g.D.Disk.drawn old new) in
    let n = c.loop-number.number in
    let done = c.in_ok-open_volume.ensures.opened in
    subst (λ l. Gathered R (n + 1) c.args.volumes.now (slice_set c.loop-number.volumes n c.open_volume.new.volume) l) (sym done.1)
    (gathered_more R n c.args.volumes.now c.loop-number.volumes c.loop-number.notes.items (get_or c.loop-number.volumes n c.index-volumes-number.result) c.open_volume.new.volume
    done.0 c.loop-number.invariant
    (at_read c.loop-number.volumes n c.index-volumes-number.result (omega arith)) (done.2, c.in_ok-open_volume.ensures.drew))

pub returns-in_err-open_volume-clause-opened : goal.returns-in_err-open_volume-clause-opened
returns-in_err-open_volume-clause-opened g c =
    let p = err_from_is_err_and c.from_residual.result c.from_residual.ensures.1 in
    passed_ok c.from_residual.result _ p.0 p.1

pub returns-in_err-open_volume-clause-refused : goal.returns-in_err-open_volume-clause-refused
returns-in_err-open_volume-clause-refused g c =
    let p = err_from_is_err_and c.from_residual.result c.from_residual.ensures.1 in
    let n = c.loop-number.number in
    let y = get_or c.loop-number.volumes n c.index-volumes-number.result in
    passed_on c.from_residual.result (RefusesVolumes g.D.Disk.Tells g.D.Disk.files g.D.Disk.fault_count c.args.settings.now c.args.volumes.now
    (slice_set c.loop-number.volumes n c.open_volume.new.volume)) c.in_err-open_volume.field-0.0 p.0 p.1 p.2
    (refused_at g.D.Disk.Tells g.D.Disk.files g.D.Piece.Piece.Tells g.D.Disk.fault_count g.D.Disk.fuse_count c.args.settings.now n c.args.volumes.now c.loop-number.volumes
    c.loop-number.notes.items y c.open_volume.new.volume c.in_err-open_volume.field-0.0
    (gathered_less (λ (old new : Volume g.row.D.Denot g.row.D-Piece.Denot) (notes : List Note).
    OpensVolume g.D.Disk.Tells g.D.Disk.files g.D.Piece.Piece.Tells g.D.Disk.fault_count g.D.Disk.fuse_count old new notes
    × (g.D.Disk.Tells → DrawsVolume g.D.Disk.files g.D.Disk.drawn old new)) (OpensVolume g.D.Disk.Tells g.D.Disk.files g.D.Piece.Piece.Tells g.D.Disk.fault_count
    g.D.Disk.fuse_count) (λ x y more r. r.0) n c.args.volumes.now c.loop-number.volumes c.loop-number.notes.items c.loop-number.invariant)
    (at_read c.loop-number.volumes n c.index-volumes-number.result (omega arith)) c.in_err-open_volume.ensures.refused)

pub returns-in_err-open_volume-clause-moves : goal.returns-in_err-open_volume-clause-moves
returns-in_err-open_volume-clause-moves g c =
    let n = c.loop-number.number in
    let y = get_or c.loop-number.volumes n c.index-volumes-number.result in
    moved_at g.D.Disk.Tells g.D.Disk.files g.D.Piece.Piece.Tells g.D.Disk.fault_count g.D.Disk.fuse_count n c.args.volumes.now c.loop-number.volumes c.loop-number.notes.items y
    c.open_volume.new.volume
    (gathered_less (λ (old new : Volume g.row.D.Denot g.row.D-Piece.Denot) (notes : List Note).
    OpensVolume g.D.Disk.Tells g.D.Disk.files g.D.Piece.Piece.Tells g.D.Disk.fault_count g.D.Disk.fuse_count old new notes
    × (g.D.Disk.Tells → DrawsVolume g.D.Disk.files g.D.Disk.drawn old new)) (OpensVolume g.D.Disk.Tells g.D.Disk.files g.D.Piece.Piece.Tells g.D.Disk.fault_count
    g.D.Disk.fuse_count) (λ x y more r. r.0) n c.args.volumes.now c.loop-number.volumes c.loop-number.notes.items c.loop-number.invariant)
    (at_read c.loop-number.volumes n c.index-volumes-number.result (omega arith)) (each_told g.D.Disk.Tells (IsIdleVolume g.D.Disk.files) c.args.volumes.now c.requires.idle)
    c.open_volume.ensures.moves

pub returns-clause-opened : goal.returns-clause-opened
returns-clause-opened g c =
    let R =
    λ (old new : Volume g.row.D.Denot g.row.D-Piece.Denot) (notes : List Note). OpensVolume g.D.Disk.Tells g.D.Disk.files g.D.Piece.Piece.Tells g.D.Disk.fault_count
    g.D.Disk.fuse_count old new notes × (g.D.Disk.Tells → DrawsVolume g.D.Disk.files g.D.Disk.drawn old new) in
    gathers_less R (OpensVolume g.D.Disk.Tells g.D.Disk.files g.D.Piece.Piece.Tells g.D.Disk.fault_count g.D.Disk.fuse_count) (λ x y more r. r.0) c.args.volumes.now
    c.loop-number.volumes c.loop-number.notes.items
    (gathered_all R c.loop-number.number c.args.volumes.now c.loop-number.volumes c.loop-number.notes.items c.loop-number.invariant (omega arith))

pub returns-clause-moves : goal.returns-clause-moves
returns-clause-moves g c =
    let R =
    λ (old new : Volume g.row.D.Denot g.row.D-Piece.Denot) (notes : List Note). OpensVolume g.D.Disk.Tells g.D.Disk.files g.D.Piece.Piece.Tells g.D.Disk.fault_count
    g.D.Disk.fuse_count old new notes × (g.D.Disk.Tells → DrawsVolume g.D.Disk.files g.D.Disk.drawn old new) in
    gathers_zip R (LeavesVolume g.D.Disk.Tells g.D.Disk.files g.D.Piece.Piece.Tells g.D.Disk.fault_count g.D.Disk.fuse_count) c.args.volumes.now c.loop-number.volumes
    c.loop-number.notes.items (λ x y more r. r.0.moves)
    (gathered_all R c.loop-number.number c.args.volumes.now c.loop-number.volumes c.loop-number.notes.items c.loop-number.invariant (omega arith))

pub open_volume-requires : goal.open_volume-requires
open_volume-requires g c =
    let R =
    λ (old new : Volume g.row.D.Denot g.row.D-Piece.Denot) (notes : List Note). OpensVolume g.D.Disk.Tells g.D.Disk.files g.D.Piece.Piece.Tells g.D.Disk.fault_count
    g.D.Disk.fuse_count old new notes × (g.D.Disk.Tells → DrawsVolume g.D.Disk.files g.D.Disk.drawn old new) in
    let n = c.loop-number.number in
    let y = get_or c.loop-number.volumes n c.index-volumes-number.result in
    let was =
    gathered_was R n c.args.volumes.now c.loop-number.volumes c.loop-number.notes.items y c.loop-number.invariant (at_read c.loop-number.volumes n c.index-volumes-number.result (omega arith)) in
    let within : n < c.args.settings.now.volumes = omega (arith, c.requires.many) in
    record {
      built = c.requires.built;
      within = within;
      is = InOrder-get (IsVolumeOf c.args.settings.now) c.args.volumes.now n y was c.requires.numbers;
      closed = AllByRecursion-at IsClosed c.args.volumes.now n y was c.requires.closed;
      idle = λ tells. AllByRecursion-at (IsIdleVolume g.D.Disk.files) c.args.volumes.now n y was (c.requires.idle tells);
    }

pub returns-clause-drew : goal.returns-clause-drew
returns-clause-drew g c = λ tells.
    let R =
    λ (old new : Volume g.row.D.Denot g.row.D-Piece.Denot) (notes : List Note). OpensVolume g.D.Disk.Tells g.D.Disk.files g.D.Piece.Piece.Tells g.D.Disk.fault_count
    g.D.Disk.fuse_count old new notes × (g.D.Disk.Tells → DrawsVolume g.D.Disk.files g.D.Disk.drawn old new) in
    gathers_zip R (DrawsVolume g.D.Disk.files g.D.Disk.drawn) c.args.volumes.now c.loop-number.volumes c.loop-number.notes.items (λ x y more r. r.1 tells)
    (gathered_all R c.loop-number.number c.args.volumes.now c.loop-number.volumes c.loop-number.notes.items c.loop-number.invariant (omega arith))
