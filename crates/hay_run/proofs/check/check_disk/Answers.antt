use Rattle.std.proofs.Common.{arith}
use Rattle.hay_run.proofs.Checking.{first_kind, other_kind, verdict_by}
use Rattle.hay_run.proofs.check.check_disk.Goals as goal

pub returns-else-slot-eq0-clause-verdict : goal.returns-else-slot-eq0-clause-verdict
returns-else-slot-eq0-clause-verdict g c = λ tells.
    verdict_by c.args.settings.now c.args.slot (λ n. (g.D.Disk.files c.args.disk.now n).now) c.super_at.result (λ first. absurd (omega (arith, c.if-slot-eq0.false)))
    c.super_at.ensures c.check_replica.result (c.check_replica.ensures.verdict tells)

pub returns-then-slot-eq0-clause-kind : goal.returns-then-slot-eq0-clause-kind
returns-then-slot-eq0-clause-kind g c = first_kind c.args.slot c.check_journal.result (omega (arith, c.if-slot-eq0.true)) c.check_journal.ensures.kind

pub returns-else-slot-eq0-clause-kind : goal.returns-else-slot-eq0-clause-kind
returns-else-slot-eq0-clause-kind g c = other_kind c.args.slot c.check_replica.result (λ first. absurd (omega (arith, c.if-slot-eq0.false, first))) c.check_replica.ensures.kind
