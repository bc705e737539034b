use Rattle.std.proofs.Common.{◌≡◌, List, ◌∷◌, ◌+◌, drop, ap, sym, subst, ◌∙◌, inr}
use Rattle.std.proofs.lemmas.List.{drop_more}
use Rattle.hay_audit_steps.specs.Judged.{IsUsed}
use Rattle.hay_audit_steps.specs.Boxes.{Has}
use Rattle.hay_audit.specs.declared.judge.Candidate.{Candidate}
use Rattle.hay_audit.specs.Candidates.{AreKept, all_standing}
use Rattle.hay_audit.proofs.Placing.{not_used_here, used_here}
use Rattle.hay_audit.proofs.judge.is_used.Goals as goal

pub loop-candidate-preserved : goal.loop-candidate-preserved
loop-candidate-preserved c =
    let before = c.loop-candidate.invariant in
    let front : drop c.loop-candidate.candidate-index c.args.candidates.now ≡ c.candidate-item.result ∷ drop (c.loop-candidate.candidate-index + 1) c.args.candidates.now =
    drop_more c.args.candidates.now c.loop-candidate.candidate-index c.candidate-item.result c.loop-candidate-test.true
    ∙ ap (λ (x : Candidate). x ∷ drop (c.loop-candidate.candidate-index + 1) c.args.candidates.now) (sym c.candidate-item.is) in
    let within : AreKept c.args.settings.now c.args.transcript.now (c.candidate-item.result ∷ drop (c.loop-candidate.candidate-index + 1) c.args.candidates.now) =
    subst (λ (xs : List Candidate). AreKept c.args.settings.now c.args.transcript.now xs) front before.1 in (
      (
        λ used. not_used_here c.args.transcript.now c.candidate-item.result (drop (c.loop-candidate.candidate-index + 1) c.args.candidates.now) (within.0).within c.if-candidate-transcript.false
            (subst (λ (xs : List Candidate). IsUsed Has (all_standing c.args.transcript.now xs)) front ((before.0).0 used)),
        λ used. (before.0).1 (subst (λ (xs : List Candidate). IsUsed Has (all_standing c.args.transcript.now xs)) (sym front) (inr used)),
      ),
      within.1,
    )

pub returns-then-candidate-transcript-clause-yes : goal.returns-then-candidate-transcript-clause-yes
returns-then-candidate-transcript-clause-yes c = λ e.
    let before = c.loop-candidate.invariant in
    let front : drop c.loop-candidate.candidate-index c.args.candidates.now ≡ c.candidate-item.result ∷ drop (c.loop-candidate.candidate-index + 1) c.args.candidates.now =
    drop_more c.args.candidates.now c.loop-candidate.candidate-index c.candidate-item.result c.loop-candidate-test.true
    ∙ ap (λ (x : Candidate). x ∷ drop (c.loop-candidate.candidate-index + 1) c.args.candidates.now) (sym c.candidate-item.is) in
    let kept : AreKept c.args.settings.now c.args.transcript.now (c.candidate-item.result ∷ drop (c.loop-candidate.candidate-index + 1) c.args.candidates.now) =
    subst (λ (xs : List Candidate). AreKept c.args.settings.now c.args.transcript.now xs) front before.1 in
    (before.0).1 (subst (λ (xs : List Candidate). IsUsed Has (all_standing c.args.transcript.now xs)) (sym front)
    (used_here c.args.settings.now c.args.transcript.now c.candidate-item.result (drop (c.loop-candidate.candidate-index + 1) c.args.candidates.now) kept.0 c.if-candidate-transcript.true))
