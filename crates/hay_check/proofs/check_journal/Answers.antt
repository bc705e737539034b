use Rattle.std.proofs.Common.{Err, ap}
use Rattle.hay_index.proofs.Readings.{if_ok}
use Rattle.hay_check.proofs.Once.{journal_once}
use Rattle.hay_check.proofs.Deciding.{answered, journal_damage, journal_rows, journal_void, not_void}
use Rattle.hay_check.specs.Verdicts.{IsJournalVerdict, JournalCheckOf}
use Rattle.hay_check.proofs.check_journal.Goals as goal

pub returns-in-Ok-eq0-clause-verdict : goal.returns-in-Ok-eq0-clause-verdict
returns-in-Ok-eq0-clause-verdict g c = λ tells. journal_void c.args.sup.now (λ n. (g.D.Disk.files c.args.disk.now n).now) c.in-Ok-eq0.field-0 (c.in-Ok-eq0.ensures.size tells) c.in-Ok-eq0.field-0-test

pub returns-in-Ok-count_rows-clause-verdict : goal.returns-in-Ok-count_rows-clause-verdict
returns-in-Ok-count_rows-clause-verdict g c = λ tells.
    journal_rows c.args.sup.now (g.D.Disk.files c.args.disk.now) (g.D.Disk.files c.size.new.self) c.in-Ok-count_rows.rows (c.size.ensures.same tells) (c.in-Ok-count_rows.ensures.rows tells)

pub returns-in-Err-count_rows-clause-verdict : goal.returns-in-Err-count_rows-clause-verdict
returns-in-Err-count_rows-clause-verdict g c = λ tells.
    answered (JournalCheckOf c.args.sup.now (λ n. (g.D.Disk.files c.args.disk.now n).now)) c.in-Err-count_rows.refusal _ c.answer.result c.answer.ensures.is
    (λ file at is. journal_damage c.args.sup.now (g.D.Disk.files c.args.disk.now) (g.D.Disk.files c.size.new.self) file at (c.size.ensures.same tells)
    (not_void c.in-Ok.field-0 (λ n. (g.D.Disk.files c.args.disk.now n).now) (c.in-Ok.ensures.size tells) c.in-Ok.field-0-test.1)
    (c.in-Err-count_rows.ensures.damaged tells file at (ap (λ x. Err x) is)))

pub returns-in-Ok-eq0-clause-only : goal.returns-in-Ok-eq0-clause-only
returns-in-Ok-eq0-clause-only g c = λ tells v is.
    journal_once c.args.sup.now (λ n. (g.D.Disk.files c.args.disk.now n).now) _ v c.read_numbers.ensures (returns-in-Ok-eq0-clause-verdict g c tells) is

pub returns-in-Ok-count_rows-clause-only : goal.returns-in-Ok-count_rows-clause-only
returns-in-Ok-count_rows-clause-only g c = λ tells v is.
    journal_once c.args.sup.now (λ n. (g.D.Disk.files c.args.disk.now n).now) _ v c.read_numbers.ensures (returns-in-Ok-count_rows-clause-verdict g c tells) is

pub returns-in-Err-count_rows-clause-only : goal.returns-in-Err-count_rows-clause-only
returns-in-Err-count_rows-clause-only g c = λ tells v is.
    if_ok c.answer.result (JournalCheckOf c.args.sup.now (λ n. (g.D.Disk.files c.args.disk.now n).now)) _ (returns-in-Err-count_rows-clause-verdict g c tells)
    (λ told holds. journal_once c.args.sup.now (λ n. (g.D.Disk.files c.args.disk.now n).now) told v c.read_numbers.ensures holds is)

pub returns-in-Err-count_rows-clause-kind : goal.returns-in-Err-count_rows-clause-kind
returns-in-Err-count_rows-clause-kind g c =
    answered IsJournalVerdict c.in-Err-count_rows.refusal _ c.answer.result c.answer.ensures.is
    (λ file at is. (c.in-Err-count_rows.ensures.file file at (ap (λ x. Err x) is), c.answer.ensures.fits file at is))
