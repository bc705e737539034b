use Rattle.std.proofs.Common.{◌≡◌, ◌<◌, ◌∙◌, Err, length, map, ap, sym, subst}
use Rattle.std.specs.List.{All}
use Rattle.std.proofs.lemmas.Result.{err_from_is_err_and}
use Rattle.hay_disk.specs.Disk.{Files}
use Rattle.hay_needle.specs.declared.settings.Super.{Super}
use Rattle.hay_dirfile.specs.declared.fault.OpenFault.{OpenFault}
use Rattle.hay_dirfile.specs.declared.row.DirRow.{DirRow}
use Rattle.hay_dirfile.specs.Journal.{IsDamagedJournal}
use Rattle.hay_needle.specs.Super.{super_bytes}
use Rattle.hay_legal.specs.Known.{home_in}
use Rattle.hay_directory.specs.Rows.{home_row, journal_super}
use Rattle.hay_directory.proofs.HomeLaws.{rows_within}
use Rattle.hay_directory.proofs.RowLaws.{found_rows, no_rows, undamaged}
use Rattle.hay_directory.proofs.Standing.{same_fault}
use Rattle.hay_directory.proofs.load.load.Goals as goal

pub returns-in_err-journal-clause-damaged : goal.returns-in_err-journal-clause-damaged
returns-in_err-journal-clause-damaged g c = λ tells file at is.
    let old = (g.D.Disk.files c.args.disk.now 0).now in
    let fault = err_from_is_err_and c.from_residual.result c.from_residual.ensures.1 in
    let said = same_fault c.from_residual.result fault.0 c.in_err-journal.field-0.0 (OpenFault.Damaged file at) fault.1 fault.2 is in
    subst (λ (s : Super). (file ≡ 0) × (0 < length old) × IsDamagedJournal s old at) c.super_of-sup.ensures (c.in_err-journal.ensures.damaged tells file at (ap Err said))

pub returns-in_err-journal-clause-file : goal.returns-in_err-journal-clause-file
returns-in_err-journal-clause-file g c = λ file at is.
    let fault = err_from_is_err_and c.from_residual.result c.from_residual.ensures.1 in
    let said = same_fault c.from_residual.result fault.0 c.in_err-journal.field-0.0 (OpenFault.Damaged file at) fault.1 fault.2 is in
    c.in_err-journal.ensures.file file at (ap Err said)

pub returns-in_err-journal-clause-whole : goal.returns-in_err-journal-clause-whole
returns-in_err-journal-clause-whole g c = λ tells rows file at has is.
    let old = (g.D.Disk.files c.args.disk.now 0).now in
    let fault = err_from_is_err_and c.from_residual.result c.from_residual.ensures.1 in
    let said = same_fault c.from_residual.result fault.0 c.in_err-journal.field-0.0 (OpenFault.Damaged file at) fault.1 fault.2 is in
    undamaged c.args.settings.now c.super_of-sup.result old rows c.super_of-sup.ensures has (c.in_err-journal.ensures.damaged tells file at (ap Err said)).1
    (λ items journal. c.in_err-journal.ensures.only tells items file at journal (ap Err said))

pub returns-clause-found : goal.returns-clause-found
returns-clause-found g c = λ tells.
    let files = g.D.Disk.files in
    let opened = c.in_ok-journal.ensures in
    let slice = c.as_slice-listed.ensures in
    found_rows c.args.settings.now c.super_of-sup.result (files c.args.disk.now 0) (files c.open.new.disk 0) c.in_ok-journal.journal.end c.row_count-count.result
    c.in-Ok.homes.volumes c.in_ok-journal.rows.items c.super_of-sup.ensures
    (opened.rows tells) (opened.end tells) (opened.rest tells) (opened.next tells) (opened.void tells) (λ some. ap (λ (f : Files). f 0) (opened.same tells some)) (opened.exact tells)
    (λ pair. c.in-Ok.ensures pair ∙ ap (λ l. home_in (map home_row l) pair) slice.value)
    (c.row_count-count.ensures.is ∙ ap length slice.value)

pub returns-clause-count : goal.returns-clause-count
returns-clause-count g c = c.row_count-count.ensures.is ∙ ap length c.as_slice-listed.ensures.value

pub returns-clause-within : goal.returns-clause-within
returns-clause-within g c =
    rows_within c.args.settings.now.volumes c.in_ok-journal.rows.items (subst (λ (s : Super). All (λ (row : DirRow). row.volume < s.settings.volumes) c.in_ok-journal.rows.items)
    c.super_of-sup.ensures c.in_ok-journal.ensures.within)

pub returns-clause-undamaged : goal.returns-clause-undamaged
returns-clause-undamaged g c = λ tells some at damage.
    c.in_ok-journal.ensures.undamaged tells some at (subst (λ (s : Super). IsDamagedJournal s (g.D.Disk.files c.args.disk.now 0).now at) (sym c.super_of-sup.ensures) damage)

pub returns-clause-undamaged_now : goal.returns-clause-undamaged_now
returns-clause-undamaged_now g c = λ tells at damage.
    c.in_ok-journal.ensures.undamaged_now tells at (subst (λ (s : Super). IsDamagedJournal s (g.D.Disk.files c.open.new.disk 0).now at) (sym c.super_of-sup.ensures) damage)

pub returns-in_err-journal-clause-nothing : goal.returns-in_err-journal-clause-nothing
returns-in_err-journal-clause-nothing g c = λ tells void image rows other is.
    no_rows other image rows (λ items journal. c.open.ensures.nothing tells void (super_bytes (journal_super other)) image other.volumes items is journal)

pub returns-in_default-clause-nothing : goal.returns-in_default-clause-nothing
returns-in_default-clause-nothing g c = λ tells void image rows other is.
    no_rows other image rows (λ items journal. c.open.ensures.nothing tells void (super_bytes (journal_super other)) image other.volumes items is journal)

pub returns-in_default-notes_of-clause-nothing : goal.returns-in_default-notes_of-clause-nothing
returns-in_default-notes_of-clause-nothing g c = λ tells void image rows other is.
    no_rows other image rows (λ items journal. c.open.ensures.nothing tells void (super_bytes (journal_super other)) image other.volumes items is journal)

pub returns-clause-nothing : goal.returns-clause-nothing
returns-clause-nothing g c = λ tells void image rows other is.
    no_rows other image rows (λ items journal. c.open.ensures.nothing tells void (super_bytes (journal_super other)) image other.volumes items is journal)
