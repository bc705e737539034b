use Rattle.std.proofs.Common.{Err, ap}
use Rattle.std.proofs.lemmas.Result.{err_from_is_err_and}
use Rattle.hay_dirfile.specs.declared.fault.OpenFault.{OpenFault}
use Rattle.hay_directory.proofs.Standing.{same_fault}
use Rattle.hay_directory.proofs.directory.Directory.open.Goals as goal

pub returns-clause-opened : goal.returns-clause-opened
returns-clause-opened g c = λ tells fresh.
    let opened = c.in_ok-opened.ensures.opened tells fresh in
    (opened.0, (_, opened.1, opened.2))

pub returns-clause-reopened : goal.returns-clause-reopened
returns-clause-reopened g c = λ tells known stopped.
    let opened = c.in_ok-opened.ensures.reopened tells known stopped in
    (opened.0, opened.1, opened.3)

pub returns-in_err-opened-clause-damaged : goal.returns-in_err-opened-clause-damaged
returns-in_err-opened-clause-damaged g c = λ tells file at is.
    let fault = err_from_is_err_and c.from_residual.result c.from_residual.ensures.1 in
    let said = same_fault c.from_residual.result fault.0 c.in_err-opened.field-0.0 (OpenFault.Damaged file at) fault.1 fault.2 is in
    c.in_err-opened.ensures.damaged tells file at (ap Err said)

pub returns-in_err-opened-clause-file : goal.returns-in_err-opened-clause-file
returns-in_err-opened-clause-file g c = λ file at is.
    let fault = err_from_is_err_and c.from_residual.result c.from_residual.ensures.1 in
    let said = same_fault c.from_residual.result fault.0 c.in_err-opened.field-0.0 (OpenFault.Damaged file at) fault.1 fault.2 is in
    c.in_err-opened.ensures.file file at (ap Err said)

pub returns-in_err-opened-clause-whole : goal.returns-in_err-opened-clause-whole
returns-in_err-opened-clause-whole g c = λ tells rows file at has is.
    let fault = err_from_is_err_and c.from_residual.result c.from_residual.ensures.1 in
    let said = same_fault c.from_residual.result fault.0 c.in_err-opened.field-0.0 (OpenFault.Damaged file at) fault.1 fault.2 is in
    c.in_err-opened.ensures.whole tells rows file at has (ap Err said)

pub returns-clause-seen : goal.returns-clause-seen
returns-clause-seen g c = (_, c.in_ok-opened.ensures.seen)
