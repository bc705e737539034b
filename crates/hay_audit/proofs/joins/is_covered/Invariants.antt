use Rattle.std.proofs.Common.{drop}
use Rattle.hay_audit_steps.specs.CheckerSteps.{AnyOf}
use Rattle.hay_audit.specs.Joined.{StandsFor}
use Rattle.hay_audit.proofs.joins.is_covered.Given as goal

abbrev pub invariant-loop-one : goal.invariant-loop-one
invariant-loop-one l = AnyOf (λ one. StandsFor one l.candidate) (drop l.one-index l.kept) → AnyOf (λ one. StandsFor one l.candidate) l.kept
