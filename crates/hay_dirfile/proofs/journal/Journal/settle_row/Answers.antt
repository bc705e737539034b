use Rattle.std.proofs.Common.{◌≡◌, ◌+◌, ℕ, ap, lit<}
use Rattle.hay_dirfile.specs.declared.journal.Journal.{Journal}
use Rattle.hay_dirfile.proofs.JournalLaws.{journal_grows, journal_stays, next_place, next_gate}
use Rattle.hay_dirfile.proofs.journal.Journal.settle_row.Goals as goal

pub returns-in_err-gate_append-clause-left : goal.returns-in_err-gate_append-clause-left
returns-in_err-gate_append-clause-left g c = λ tells superblock volumes rows image below ends is solid leaves.
    journal_stays superblock volumes c.row_body.result image (g.D.Disk.files c.args.disk.now 0) (g.D.Disk.files c.gate_append.new.disk 0) rows c.args.row c.args.self.now.end
    (c.row_body.ensures.fits volumes below) c.row_body.ensures.bytes ends (c.gate_append.ensures.stays tells (lit< tt)) is solid leaves

pub returns-clause-moved : goal.returns-clause-moved
returns-clause-moved g c = λ tells.
    let fits = g.met.D.Disk.fits c.gate_append.new.disk 0 tells in
    let place : c.saturating_add-self.result ≡ c.args.self.now.end + 24 =
    next_place c.args.self.now.end c.saturating_add-self.result c.row_body.result c.args.row (g.D.Disk.files c.gate_append.new.disk 0) c.row_body.ensures.bytes
    (c.in_ok-gate_append.ensures.next tells (lit< tt)) fits c.saturating_add-self.ensures in
    let with : ℕ → Journal = λ k. record { end = k } in
    ap with place

pub returns-clause-added : goal.returns-clause-added
returns-clause-added g c = λ tells superblock volumes rows below ends is.
    journal_grows superblock volumes (g.D.Disk.files c.args.disk.now 0).now (g.D.Disk.files c.gate_append.new.disk 0).now c.row_body.result rows c.args.row c.args.self.now.end
    (c.row_body.ensures.fits volumes below) c.row_body.ensures.bytes ends (c.in_ok-gate_append.ensures.grows tells (lit< tt)) is

pub returns-clause-next : goal.returns-clause-next
returns-clause-next g c = λ tells.
    let fits = g.met.D.Disk.fits c.gate_append.new.disk 0 tells in
    let gate = c.in_ok-gate_append.ensures.next tells (lit< tt) in
    let place : c.saturating_add-self.result ≡ c.args.self.now.end + 24 =
    next_place c.args.self.now.end c.saturating_add-self.result c.row_body.result c.args.row (g.D.Disk.files c.gate_append.new.disk 0) c.row_body.ensures.bytes gate fits
    c.saturating_add-self.ensures in
    next_gate c.args.self.now.end c.saturating_add-self.result c.row_body.result c.args.row (g.D.Disk.files c.gate_append.new.disk 0) c.row_body.ensures.bytes place gate

pub returns-clause-left : goal.returns-clause-left
returns-clause-left g c = λ tells superblock volumes rows image below ends is solid leaves.
    journal_stays superblock volumes c.row_body.result image (g.D.Disk.files c.args.disk.now 0) (g.D.Disk.files c.gate_append.new.disk 0) rows c.args.row c.args.self.now.end
    (c.row_body.ensures.fits volumes below) c.row_body.ensures.bytes ends (c.gate_append.ensures.stays tells (lit< tt)) is solid leaves
