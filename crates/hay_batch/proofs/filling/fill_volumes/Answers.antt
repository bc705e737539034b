use Rattle.std.proofs.Common.{◌<◌, ◌≤◌, length, get_or, arith}
use Rattle.std.specs.Prelude.{reverse}
use Rattle.hay_batch.proofs.Lists.{at_read}
use Rattle.hay_batch.proofs.FillingLaws.{enough_left, fills_all, fills_more, fills_none}
use Rattle.hay_batch.proofs.filling.fill_volumes.Goals as goal

pub loop-volume-init : goal.loop-volume-init
loop-volume-init g c = fills_none _ _ _ _

pub loop-volume-preserved : goal.loop-volume-preserved
loop-volume-preserved g c =
    let n = c.loop-volume.volume-index in
    fills_more c.args.replicas n (reverse c.args.disks.now.items) c.loop-volume.disks.items c.fill_volume.new.disks.items (reverse c.args.files.now.items) c.loop-volume.files.items
    c.fill_volume.new.files.items c.args.volumes.now c.loop-volume.volumes
    (get_or c.loop-volume.volumes n c.volume-item.result) c.fill_volume.new.volume c.loop-volume.invariant (at_read c.loop-volume.volumes n c.volume-item.result (omega arith))
    c.fill_volume.ensures.filled c.fill_volume.ensures.disks c.fill_volume.ensures.files

pub fill_volume-requires-clause-empty : goal.fill_volume-requires-clause-empty
fill_volume-requires-clause-empty g c =
    let n = c.loop-volume.volume-index in
    let y = get_or c.loop-volume.volumes n c.volume-item.result in
    c.requires.empty n y (c.loop-volume.invariant.later n y (omega arith) (at_read c.loop-volume.volumes n c.volume-item.result (omega arith)))

pub fill_volume-requires-clause-disks : goal.fill_volume-requires-clause-disks
fill_volume-requires-clause-disks g c =
    let count = c.loop-volume.invariant.count in
    let next : c.loop-volume.volume-index < length c.args.volumes.now = omega (arith, count) in
    enough_left c.args.replicas c.loop-volume.volume-index (length c.args.volumes.now) c.args.disks.now.items c.loop-volume.disks.items c.loop-volume.invariant.left next c.requires.disks

pub fill_volume-requires-clause-files : goal.fill_volume-requires-clause-files
fill_volume-requires-clause-files g c =
    let count = c.loop-volume.invariant.count in
    let next : c.loop-volume.volume-index < length c.args.volumes.now = omega (arith, count) in
    enough_left c.args.replicas c.loop-volume.volume-index (length c.args.volumes.now) c.args.files.now.items c.loop-volume.files.items c.loop-volume.invariant.unread next c.requires.files

pub returns : goal.returns
returns g c =
    let count = c.loop-volume.invariant.count in
    let all : length c.args.volumes.now ≤ c.loop-volume.volume-index = omega (arith, count) in
    fills_all c.args.replicas c.loop-volume.volume-index (reverse c.args.disks.now.items) c.loop-volume.disks.items (reverse c.args.files.now.items) c.loop-volume.files.items
    c.args.volumes.now c.loop-volume.volumes c.loop-volume.invariant all
