use Rattle.std.proofs.Common.{ap, Err}
use Rattle.hay_dirfile.proofs.JournalLaws.{damage_of, no_row_yet}
use Rattle.hay_dirfile.proofs.journal.Journal.open.Goals as goal

pub returns-in-Err-clause-damaged : goal.returns-in-Err-clause-damaged
returns-in-Err-clause-damaged g c = λ tells file at is.
    let named = damage_of c.in-Err.fault c.open_fault.result c.faults.result file at c.open_fault.ensures (cc) in
    let damage = c.in-Err.ensures.damaged tells at (ap (λ x. Err x) named.1) in
    (named.0, damage.0, damage.1)

pub returns-in-Err-clause-file : goal.returns-in-Err-clause-file
returns-in-Err-clause-file g c = λ file at is. (damage_of c.in-Err.fault c.open_fault.result c.faults.result file at c.open_fault.ensures (cc)).0

pub returns-in-Ok-clause-nothing : goal.returns-in-Ok-clause-nothing
returns-in-Ok-clause-nothing g c = λ tells void superblock image volumes rows is.
    no_row_yet superblock volumes (g.D.Disk.files c.args.disk.now 0) (g.D.Disk.files c.open_rows.new.disk 0) image rows (c.requires.solid tells) void (c.open_rows.ensures.changes tells) is

pub returns-in-Err-clause-nothing : goal.returns-in-Err-clause-nothing
returns-in-Err-clause-nothing g c = λ tells void superblock image volumes rows is.
    no_row_yet superblock volumes (g.D.Disk.files c.args.disk.now 0) (g.D.Disk.files c.open_rows.new.disk 0) image rows (c.requires.solid tells) void (c.open_rows.ensures.changes tells) is
