use Rattle.std.proofs.Common.{◌≡◌, Err, ap, subst}
use Rattle.hay_check.specs.declared.verdict.Verdict.{Verdict}
use Rattle.hay_check.specs.declared.verdict.Verdict.TheVariants.{Whole}
use Rattle.hay_check.specs.Verdicts.{CheckOf, IsReplicaVerdict, OpensWhole}
use Rattle.hay_index.proofs.Readings.{if_ok}
use Rattle.hay_check.proofs.Once.{verdict_once}
use Rattle.hay_check.proofs.Deciding.{answered, check_damage, check_opens, check_void, check_whole, not_void}
use Rattle.hay_check.proofs.check_replica.Goals as goal

pub returns-in-Ok-eq0-clause-verdict : goal.returns-in-Ok-eq0-clause-verdict
returns-in-Ok-eq0-clause-verdict g c = λ tells. check_void c.args.sup.now (λ n. (g.D.Disk.files c.args.disk.now n).now) c.in-Ok-eq0.field-0 (c.in-Ok-eq0.ensures.size tells) c.in-Ok-eq0.field-0-test

pub returns-in-Ok-check_disk-clause-verdict : goal.returns-in-Ok-check_disk-clause-verdict
returns-in-Ok-check_disk-clause-verdict g c = λ tells.
    check_whole c.args.sup.now (g.D.Disk.files c.args.disk.now) (g.D.Disk.files c.size.new.self) c.in-Ok-check_disk.verdict (c.size.ensures.same tells) (c.in-Ok-check_disk.ensures.whole tells)

pub returns-in-Ok-check_disk-clause-opens : goal.returns-in-Ok-check_disk-clause-opens
returns-in-Ok-check_disk-clause-opens g c = λ tells generation cells live records end old is.
    let same : c.in-Ok-check_disk.verdict ≡ Whole generation cells live records end old = cc in
    subst (λ (v : Verdict). OpensWhole c.args.sup.now (λ n. (g.D.Disk.files c.args.disk.now n).now) v) same
    (check_opens c.args.sup.now (λ n. (g.D.Disk.files c.args.disk.now n).now) c.in-Ok-check_disk.verdict generation cells live records end old c.read_numbers.ensures
    (λ n. g.met.D.Disk.fits c.args.disk.now n tells) same
    (check_whole c.args.sup.now (g.D.Disk.files c.args.disk.now) (g.D.Disk.files c.size.new.self) c.in-Ok-check_disk.verdict (c.size.ensures.same tells) (c.in-Ok-check_disk.ensures.whole tells)))

pub returns-in-Err-check_disk-clause-verdict : goal.returns-in-Err-check_disk-clause-verdict
returns-in-Err-check_disk-clause-verdict g c = λ tells.
    answered (CheckOf c.args.sup.now (λ n. (g.D.Disk.files c.args.disk.now n).now)) c.in-Err-check_disk.refusal _ c.answer.result c.answer.ensures.is
    (λ file at is. check_damage c.args.sup.now (g.D.Disk.files c.args.disk.now) (g.D.Disk.files c.size.new.self) file at (c.size.ensures.same tells)
    (not_void c.in-Ok.field-0 (λ n. (g.D.Disk.files c.args.disk.now n).now) (c.in-Ok.ensures.size tells) c.in-Ok.field-0-test.1)
    (c.in-Err-check_disk.ensures.damaged tells file at (ap (λ x. Err x) is)))

pub returns-in-Ok-eq0-clause-only : goal.returns-in-Ok-eq0-clause-only
returns-in-Ok-eq0-clause-only g c = λ tells v is.
    verdict_once c.args.sup.now (λ n. (g.D.Disk.files c.args.disk.now n).now) _ v c.read_numbers.ensures (λ n. g.met.D.Disk.fits c.args.disk.now n tells)
    (returns-in-Ok-eq0-clause-verdict g c tells) is

pub returns-in-Ok-check_disk-clause-only : goal.returns-in-Ok-check_disk-clause-only
returns-in-Ok-check_disk-clause-only g c = λ tells v is.
    verdict_once c.args.sup.now (λ n. (g.D.Disk.files c.args.disk.now n).now) _ v c.read_numbers.ensures (λ n. g.met.D.Disk.fits c.args.disk.now n tells)
    (returns-in-Ok-check_disk-clause-verdict g c tells) is

pub returns-in-Err-check_disk-clause-only : goal.returns-in-Err-check_disk-clause-only
returns-in-Err-check_disk-clause-only g c = λ tells v is.
    if_ok c.answer.result (CheckOf c.args.sup.now (λ n. (g.D.Disk.files c.args.disk.now n).now)) _ (returns-in-Err-check_disk-clause-verdict g c tells)
    (λ told holds. verdict_once c.args.sup.now (λ n. (g.D.Disk.files c.args.disk.now n).now) told v c.read_numbers.ensures (λ n. g.met.D.Disk.fits c.args.disk.now n tells) holds is)

pub returns-in-Err-check_disk-clause-kind : goal.returns-in-Err-check_disk-clause-kind
returns-in-Err-check_disk-clause-kind g c =
    answered IsReplicaVerdict c.in-Err-check_disk.refusal _ c.answer.result c.answer.ensures.is
    (λ file at is. (c.in-Err-check_disk.ensures.file file at (ap (λ x. Err x) is), c.answer.ensures.fits file at is))
