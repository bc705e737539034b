use Rattle.std.proofs.Common.{List, ◌∷◌, ◌++◌, [], refl, sym, subst}
use Rattle.hay_audit_steps.specs.CheckerSteps.{AnyOf}
use Rattle.hay_audit.specs.declared.judge.Candidate.{Candidate}
use Rattle.hay_audit.specs.Joined.{Joined, StandsFor}
use Rattle.hay_audit.proofs.Joining.{joined_less, joined_more}
use Rattle.hay_audit.proofs.joins.keep.Goals as goal

pub returns-then-is_covered : goal.returns-then-is_covered
returns-then-is_covered c = λ done joined.
    joined_less done c.args.kept.now c.args.candidate joined
    (subst (λ (kept : List Candidate). AnyOf (λ one. StandsFor one c.args.candidate) kept) c.as_slice.ensures (c.if-is_covered.ensures refl))

pub returns : goal.returns
returns c = λ done joined.
    subst (λ (kept : List Candidate). Joined (done ++ c.args.candidate ∷ []) kept) (sym c.in_ok-push.ensures.ok) (joined_more done c.args.kept.now c.args.candidate joined)
