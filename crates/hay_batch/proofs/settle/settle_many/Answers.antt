use Rattle.std.proofs.Common.{◌≡◌, ◌+◌, ◌*◌, inl, ℕ, ap, lit<, arith, length}
use Rattle.hay_dirfile.specs.declared.journal.Journal.{Journal}
use Rattle.hay_volume.proofs.Volumes.{as_many}
use Rattle.hay_batch.proofs.RowRuns.{body_made, body_of, ends_in_mark, length-body, journal_kept, journal_grows, journal_stays, next_place, next_gate}
use Rattle.hay_batch.proofs.settle.settle_many.Goals as goal

-- nothing was written
pub returns-in_err-bytes-clause-left : goal.returns-in_err-bytes-clause-left
returns-in_err-bytes-clause-left g c = λ tells superblock volumes old image below ends is solid leaves.
    inl (journal_kept superblock volumes (g.D.Disk.files c.args.disk.now 0) image old c.args.journal.now.end ends (c.requires.gate tells) is solid leaves)

pub gate_append-requires-clause-mark : goal.gate_append-requires-clause-mark
gate_append-requires-clause-mark g c =
    ends_in_mark (body_of c.as_slice.result.now) c.args.rows.now (body_made c.as_slice.result.now c.in_ok-bytes.bytes.items c.args.rows.now c.requires.some
    c.in_ok-bytes.ensures.fit c.as_slice.ensures.value c.in_ok-bytes.ensures.bytes)

-- the append was begun
pub returns-in_err-gate_append-clause-left : goal.returns-in_err-gate_append-clause-left
returns-in_err-gate_append-clause-left g c = λ tells superblock volumes old image below ends is solid leaves.
    let made = body_made c.as_slice.result.now c.in_ok-bytes.bytes.items c.args.rows.now c.requires.some c.in_ok-bytes.ensures.fit c.as_slice.ensures.value c.in_ok-bytes.ensures.bytes in
    journal_stays superblock volumes image (body_of c.as_slice.result.now) (g.D.Disk.files c.args.disk.now 0) (g.D.Disk.files c.gate_append.new.disk 0) old c.args.rows.now
    c.args.journal.now.end made below ends (c.gate_append.ensures.stays tells (lit< tt)) is solid leaves

pub returns-in_err-gate_append-clause-changes : goal.returns-in_err-gate_append-clause-changes
returns-in_err-gate_append-clause-changes g c = λ tells.
    let made = body_made c.as_slice.result.now c.in_ok-bytes.bytes.items c.args.rows.now c.requires.some c.in_ok-bytes.ensures.fit c.as_slice.ensures.value c.in_ok-bytes.ensures.bytes in
    as_many _ _ _ _ _ (omega (arith, length-body (body_of c.as_slice.result.now) c.args.rows.now made)) (c.gate_append.ensures.changes tells)

-- the rows were added
pub returns-clause-moved : goal.returns-clause-moved
returns-clause-moved g c = λ tells.
    let made = body_made c.as_slice.result.now c.in_ok-bytes.bytes.items c.args.rows.now c.requires.some c.in_ok-bytes.ensures.fit c.as_slice.ensures.value c.in_ok-bytes.ensures.bytes in
    let fits = g.met.D.Disk.fits c.gate_append.new.disk 0 tells in
    let place : c.saturating_add-journal.result ≡ c.args.journal.now.end + 24 * length c.args.rows.now =
    next_place c.args.journal.now.end c.saturating_add-journal.result (body_of c.as_slice.result.now) c.args.rows.now (g.D.Disk.files c.gate_append.new.disk 0) made
    (c.in_ok-gate_append.ensures.next tells (lit< tt)) fits c.saturating_add-journal.ensures in
    let with : ℕ → Journal = λ k. record { end = k } in
    ap with place

pub returns-clause-added : goal.returns-clause-added
returns-clause-added g c = λ tells superblock volumes old below ends is.
    let made = body_made c.as_slice.result.now c.in_ok-bytes.bytes.items c.args.rows.now c.requires.some c.in_ok-bytes.ensures.fit c.as_slice.ensures.value c.in_ok-bytes.ensures.bytes in
    journal_grows superblock volumes (g.D.Disk.files c.args.disk.now 0).now (g.D.Disk.files c.gate_append.new.disk 0).now (body_of c.as_slice.result.now) old c.args.rows.now
    c.args.journal.now.end made below ends (c.in_ok-gate_append.ensures.grows tells (lit< tt)) is

pub returns-clause-next : goal.returns-clause-next
returns-clause-next g c = λ tells.
    let made = body_made c.as_slice.result.now c.in_ok-bytes.bytes.items c.args.rows.now c.requires.some c.in_ok-bytes.ensures.fit c.as_slice.ensures.value c.in_ok-bytes.ensures.bytes in
    let fits = g.met.D.Disk.fits c.gate_append.new.disk 0 tells in
    let gate = c.in_ok-gate_append.ensures.next tells (lit< tt) in
    let place : c.saturating_add-journal.result ≡ c.args.journal.now.end + 24 * length c.args.rows.now =
    next_place c.args.journal.now.end c.saturating_add-journal.result (body_of c.as_slice.result.now) c.args.rows.now (g.D.Disk.files c.gate_append.new.disk 0) made gate fits
    c.saturating_add-journal.ensures in
    next_gate c.args.journal.now.end c.saturating_add-journal.result (body_of c.as_slice.result.now) c.args.rows.now (g.D.Disk.files c.gate_append.new.disk 0) made place gate

pub returns-clause-left : goal.returns-clause-left
returns-clause-left g c = λ tells superblock volumes old image below ends is solid leaves.
    let made = body_made c.as_slice.result.now c.in_ok-bytes.bytes.items c.args.rows.now c.requires.some c.in_ok-bytes.ensures.fit c.as_slice.ensures.value c.in_ok-bytes.ensures.bytes in
    journal_stays superblock volumes image (body_of c.as_slice.result.now) (g.D.Disk.files c.args.disk.now 0) (g.D.Disk.files c.gate_append.new.disk 0) old c.args.rows.now
    c.args.journal.now.end made below ends (c.gate_append.ensures.stays tells (lit< tt)) is solid leaves

pub returns-clause-changes : goal.returns-clause-changes
returns-clause-changes g c = λ tells.
    let made = body_made c.as_slice.result.now c.in_ok-bytes.bytes.items c.args.rows.now c.requires.some c.in_ok-bytes.ensures.fit c.as_slice.ensures.value c.in_ok-bytes.ensures.bytes in
    as_many _ _ _ _ _ (omega (arith, length-body (body_of c.as_slice.result.now) c.args.rows.now made)) (c.gate_append.ensures.changes tells)
