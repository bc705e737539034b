use Rattle.std.proofs.Common.{inl, lit<, arith}
use Rattle.hay_volume.proofs.Volumes.{volume_kept, as_many, as_far}
use Rattle.hay_batch.proofs.NeedleRuns.{body_made, body_of, length-body}
use Rattle.hay_batch.proofs.Volumes.{ends_in_mark, volume_grows, volume_stays}
use Rattle.hay_batch.proofs.append.append_many.Goals as goal

-- nothing was written
pub returns-then-volume-need-clause-left : goal.returns-then-volume-need-clause-left
returns-then-volume-need-clause-left g c = λ tells superblock cells image is solid leaves.
    inl (volume_kept _ _ _ _ _ (c.requires.gate tells) is solid leaves)

pub returns-in_err-needles-clause-left : goal.returns-in_err-needles-clause-left
returns-in_err-needles-clause-left g c = λ tells superblock cells image is solid leaves.
    inl (volume_kept _ _ _ _ _ (c.requires.gate tells) is solid leaves)

pub gate_append-requires-clause-mark : goal.gate_append-requires-clause-mark
gate_append-requires-clause-mark g c =
    ends_in_mark (body_of c.as_slice.result.now) c.args.photos.now (body_made c.as_slice.result.now c.in_ok-needles.needles.items c.args.photos.now c.requires.batch.some
    c.as_slice.ensures.value c.in_ok-needles.ensures)

-- the append was begun
pub returns-in_err-gate_append-clause-left : goal.returns-in_err-gate_append-clause-left
returns-in_err-gate_append-clause-left g c = λ tells superblock cells image is solid leaves.
    let made = body_made c.as_slice.result.now c.in_ok-needles.needles.items c.args.photos.now c.requires.batch.some c.as_slice.ensures.value c.in_ok-needles.ensures in
    volume_stays superblock (g.D.Disk.files c.args.disk.now c.args.volume.now.file) (g.D.Disk.files c.gate_append.new.disk c.args.volume.now.file) image cells c.args.volume.now.end
    c.args.photos.now (body_of c.as_slice.result.now) made
    (c.gate_append.ensures.stays tells (lit< tt)) is solid leaves

pub returns-in_err-gate_append-clause-changes : goal.returns-in_err-gate_append-clause-changes
returns-in_err-gate_append-clause-changes g c = λ tells.
    let made = body_made c.as_slice.result.now c.in_ok-needles.needles.items c.args.photos.now c.requires.batch.some c.as_slice.ensures.value c.in_ok-needles.ensures in
    as_many _ _ _ _ _ (omega (arith, length-body (body_of c.as_slice.result.now) c.args.photos.now made)) (c.gate_append.ensures.changes tells)

-- the cells were added
pub returns-clause-added : goal.returns-clause-added
returns-clause-added g c = λ tells superblock cells is.
    let made = body_made c.as_slice.result.now c.in_ok-needles.needles.items c.args.photos.now c.requires.batch.some c.as_slice.ensures.value c.in_ok-needles.ensures in
    volume_grows superblock (g.D.Disk.files c.args.disk.now c.args.volume.now.file).now (g.D.Disk.files c.gate_append.new.disk c.args.volume.now.file).now cells
    c.args.volume.now.end c.batch_total-need.result c.args.photos.now (body_of c.as_slice.result.now)
    c.batch_total-need.ensures made (c.in_ok-gate_append.ensures.grows tells (lit< tt)) is

pub returns-clause-next : goal.returns-clause-next
returns-clause-next g c = λ tells.
    let made = body_made c.as_slice.result.now c.in_ok-needles.needles.items c.args.photos.now c.requires.batch.some c.as_slice.ensures.value c.in_ok-needles.ensures in
    as_far _ _ (g.D.Disk.files c.gate_append.new.disk c.args.volume.now.file) (omega (
      arith,
      c.batch_total-need.ensures,
      length-body (body_of c.as_slice.result.now) c.args.photos.now made,
    )) (c.in_ok-gate_append.ensures.next tells (lit< tt))

pub returns-clause-left : goal.returns-clause-left
returns-clause-left g c = λ tells superblock cells image is solid leaves.
    let made = body_made c.as_slice.result.now c.in_ok-needles.needles.items c.args.photos.now c.requires.batch.some c.as_slice.ensures.value c.in_ok-needles.ensures in
    volume_stays superblock (g.D.Disk.files c.args.disk.now c.args.volume.now.file) (g.D.Disk.files c.gate_append.new.disk c.args.volume.now.file) image cells c.args.volume.now.end
    c.args.photos.now (body_of c.as_slice.result.now) made
    (c.gate_append.ensures.stays tells (lit< tt)) is solid leaves

pub returns-clause-changes : goal.returns-clause-changes
returns-clause-changes g c = λ tells.
    let made = body_made c.as_slice.result.now c.in_ok-needles.needles.items c.args.photos.now c.requires.batch.some c.as_slice.ensures.value c.in_ok-needles.ensures in
    as_many _ _ _ _ _ (omega (arith, length-body (body_of c.as_slice.result.now) c.args.photos.now made)) (c.gate_append.ensures.changes tells)
