use Rattle.hay_legal.specs.Items.Asked.{Alone}
use Rattle.hay_audit.specs.Candidates.{all_standing}
use Rattle.hay_audit.proofs.Joining.{joined_advances, joined_kept}
use Rattle.hay_audit.proofs.judge.advance.Goals as goal

pub returns-clause-went : goal.returns-clause-went
returns-clause-went c =
    joined_advances c.args.settings.now c.args.transcript.now (Alone c.args.line c.args.item.now) (all_standing c.args.transcript.now c.args.candidates) c.in_ok-next.next
    c.in_ok-joined.joined c.in_ok-joined.ensures
    c.in_ok-next.ensures.went

pub returns-clause-kept : goal.returns-clause-kept
returns-clause-kept c = joined_kept c.args.settings.now c.args.transcript.now c.in_ok-next.next c.in_ok-joined.joined c.in_ok-joined.ensures c.in_ok-next.ensures.kept
