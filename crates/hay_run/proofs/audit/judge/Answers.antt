use Rattle.std.proofs.Common.{◌≡◌, List, ℕ, Err, ap, subst}
use Rattle.std.proofs.lemmas.Result.{err_from_is_err_and}
use Rattle.hay_frame.specs.declared.fault.FrameFault.TheVariants as fault
use Rattle.hay_audit_steps.specs.Judged.{Judgement as Judged, JudgementOf}
use Rattle.hay_audit.specs.Candidates.{judged_as}
use Rattle.hay_run.proofs.Auditing.{judged_frame}
use Rattle.hay_run.proofs.audit.judge.Goals as goal

pub returns-in_err-frame-clause-bad : goal.returns-in_err-frame-clause-bad
returns-in_err-frame-clause-bad g c = λ bad.
    let p = err_from_is_err_and c.from_residual.result c.from_residual.ensures.1 in
    let same : c.in_err-frame.field-0.0 ≡ fault.Bad = cc (p.1, p.2) in
    c.in_err-frame.ensures.bad (ap (λ e. Err e) same)

pub returns-in-Ok-clause-judged : goal.returns-in-Ok-clause-judged
returns-in-Ok-clause-judged g c =
    let settings = c.args.settings.now in
    let script : List ℕ = c.in_ok-frame.frame.script.items in
    let transcript : List ℕ = c.in_ok-frame.frame.transcript.items in
    let judged : Judged = judged_as c.in-Ok.judgement in
    judged_frame settings (g.S.Source.left c.args.source.now) (g.S.Source.left c.read_frame.new.source) script transcript
    c.in-Ok.judgement c.in_ok-frame.ensures.framed
    (subst (λ (s : List ℕ). JudgementOf settings s transcript judged) c.as_slice-script.ensures.value
    (subst (λ (t : List ℕ). JudgementOf settings c.as_slice-script.result.now t judged) c.as_slice-transcript.ensures.value c.in-Ok.ensures))
