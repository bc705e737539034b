use Rattle.std.proofs.Common.{inl, lit<, arith}
use Rattle.hay_volume.proofs.Volumes.{appended_stands, volume_kept, volume_grows, volume_stays, length-body, from_nothing, as_many, as_far}
use Rattle.hay_volume.proofs.volume.VolumeFile.append.Goals as goal

-- nothing was written
pub returns-then-self-need-clause-left : goal.returns-then-self-need-clause-left
returns-then-self-need-clause-left g c = λ tells superblock cells image is solid leaves.
    inl (volume_kept _ _ _ _ _ (c.requires.gate tells) is solid leaves)

pub returns-in_err-encode_rest-clause-left : goal.returns-in_err-encode_rest-clause-left
returns-in_err-encode_rest-clause-left g c = λ tells superblock cells image is solid leaves.
    inl (volume_kept _ _ _ _ _ (c.requires.gate tells) is solid leaves)

-- the append was begun
pub returns-in_err-gate_append-clause-left : goal.returns-in_err-gate_append-clause-left
returns-in_err-gate_append-clause-left g c = λ tells superblock cells image is solid leaves.
    let made =
    from_nothing c.args.pair c.args.cookie c.args.bytes.now c.new-body.result.items c.encode_rest.new.out.items c.as_slice.result.now c.new-body.ensures.items
    c.as_slice.ensures.value c.in_ok-encode_rest.ensures.ok in
    volume_stays superblock (g.D.Disk.files c.args.disk.now c.args.self.now.file) (g.D.Disk.files c.gate_append.new.disk c.args.self.now.file) image cells c.args.self.now.end
    c.args.pair c.args.cookie c.args.bytes.now c.as_slice.result.now made (c.gate_append.ensures.stays tells (lit< tt)) is solid leaves

pub returns-in_err-gate_append-clause-changes : goal.returns-in_err-gate_append-clause-changes
returns-in_err-gate_append-clause-changes g c = λ tells.
    let made =
    from_nothing c.args.pair c.args.cookie c.args.bytes.now c.new-body.result.items c.encode_rest.new.out.items c.as_slice.result.now c.new-body.ensures.items
    c.as_slice.ensures.value c.in_ok-encode_rest.ensures.ok in
    as_many _ _ _ _ _ (omega (arith, length-body c.args.pair c.args.cookie c.args.bytes.now c.as_slice.result.now made)) (c.gate_append.ensures.changes tells)

-- the cell was added
pub returns-clause-added : goal.returns-clause-added
returns-clause-added g c = λ tells superblock cells is.
    let made =
    from_nothing c.args.pair c.args.cookie c.args.bytes.now c.new-body.result.items c.encode_rest.new.out.items c.as_slice.result.now c.new-body.ensures.items
    c.as_slice.ensures.value c.in_ok-encode_rest.ensures.ok in
    volume_grows superblock (g.D.Disk.files c.args.disk.now c.args.self.now.file).now (g.D.Disk.files c.gate_append.new.disk c.args.self.now.file).now cells c.args.self.now.end
    c.total_of-need.result c.args.pair c.args.cookie c.args.bytes.now c.as_slice.result.now (omega arith) made (c.in_ok-gate_append.ensures.grows tells (lit< tt)) is

pub returns-clause-stands : goal.returns-clause-stands
returns-clause-stands g c = λ tells.
    let made =
    from_nothing c.args.pair c.args.cookie c.args.bytes.now c.new-body.result.items c.encode_rest.new.out.items c.as_slice.result.now c.new-body.ensures.items
    c.as_slice.ensures.value c.in_ok-encode_rest.ensures.ok in
    appended_stands (g.D.Disk.files c.args.disk.now c.args.self.now.file).now (g.D.Disk.files c.gate_append.new.disk c.args.self.now.file).now c.args.self.now.end c.args.pair
    c.args.cookie c.args.bytes.now c.as_slice.result.now made
    (c.in_ok-gate_append.ensures.grows tells (lit< tt)) (c.requires.gate tells).closed

pub returns-clause-next : goal.returns-clause-next
returns-clause-next g c = λ tells.
    let made =
    from_nothing c.args.pair c.args.cookie c.args.bytes.now c.new-body.result.items c.encode_rest.new.out.items c.as_slice.result.now c.new-body.ensures.items
    c.as_slice.ensures.value c.in_ok-encode_rest.ensures.ok in
    as_far _ _ (g.D.Disk.files c.gate_append.new.disk c.args.self.now.file) (omega (arith, length-body c.args.pair c.args.cookie c.args.bytes.now c.as_slice.result.now made))
    (c.in_ok-gate_append.ensures.next tells (lit< tt))

pub returns-clause-left : goal.returns-clause-left
returns-clause-left g c = λ tells superblock cells image is solid leaves.
    let made =
    from_nothing c.args.pair c.args.cookie c.args.bytes.now c.new-body.result.items c.encode_rest.new.out.items c.as_slice.result.now c.new-body.ensures.items
    c.as_slice.ensures.value c.in_ok-encode_rest.ensures.ok in
    volume_stays superblock (g.D.Disk.files c.args.disk.now c.args.self.now.file) (g.D.Disk.files c.gate_append.new.disk c.args.self.now.file) image cells c.args.self.now.end
    c.args.pair c.args.cookie c.args.bytes.now c.as_slice.result.now made (c.gate_append.ensures.stays tells (lit< tt)) is solid leaves

pub returns-clause-changes : goal.returns-clause-changes
returns-clause-changes g c = λ tells.
    let made =
    from_nothing c.args.pair c.args.cookie c.args.bytes.now c.new-body.result.items c.encode_rest.new.out.items c.as_slice.result.now c.new-body.ensures.items
    c.as_slice.ensures.value c.in_ok-encode_rest.ensures.ok in
    as_many _ _ _ _ _ (omega (arith, length-body c.args.pair c.args.cookie c.args.bytes.now c.as_slice.result.now made)) (c.gate_append.ensures.changes tells)
