use Rattle.std.proofs.Common.{ℕ, ap, subst, Ok}
use Rattle.hay_disk.specs.Gate.{HasBytesAt}
use Rattle.hay_head.specs.Rows.{IsCutAt}
use Rattle.hay_dirfile.specs.Journal.{journal_magic}
use Rattle.hay_dirfile.proofs.JournalLaws.{other_bytes, cut_row}
use Rattle.hay_dirfile.proofs.scan.read_row.Goals as goal

pub returns-in-None-clause-broken : goal.returns-in-None-clause-broken
returns-in-None-clause-broken g c = λ tells is.
    let slot = ap (λ x. Ok x) c.in-Row.is in
    let files = g.D.Disk.files c.args.disk.now in
    let stands = subst (λ (n : ℕ). HasBytesAt c.args.at c.read_slot.new.out (files n).now) c.requires.file (c.in_ok-read_slot.ensures.row tells slot) in
    other_bytes c.args.volumes c.args.at c.read_slot.new.out (files 0).now c.read_slot.auto.out (c.in_ok-read_slot.ensures.magic slot) stands c.in-None.ensures.none

pub returns-in-Broken-clause-broken : goal.returns-in-Broken-clause-broken
returns-in-Broken-clause-broken g c = λ tells is.
    let files = g.D.Disk.files c.args.disk.now in
    cut_row c.args.volumes c.args.at (files 0).now
    (subst (λ (n : ℕ). IsCutAt journal_magic 24 c.args.at (files n).now) c.requires.file (c.in_ok-read_slot.ensures.broken tells (ap (λ x. Ok x) c.in-Broken.is)))
