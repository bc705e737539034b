-- Which candidates are left where some stand for others.
use Rattle.std.specs.Prelude.{◌≡◌, List}
use Rattle.std.specs.List.{AllByRecursion as Each}
use Rattle.hay_audit_steps.specs.Boxes.{Box}
use Rattle.hay_audit_steps.specs.CheckerSteps.{AnyOf, Below}
use Rattle.hay_audit.specs.declared.judge.Candidate.{Candidate}

-- the same ranges, above a state that is the same but that no count is higher
pub record Covers (one other : Box) : Type 0 where
  pub low : one.low ≡ other.low
  pub high : one.high ≡ other.high
  pub base : Below one.base other.base

-- at the same place of the transcript
pub record StandsFor (one other : Candidate) : Type 0 where
  pub at : one.at ≡ other.at
  pub covers : Covers one.state other.state

-- These are kept of all: each is one of them, and for each of them one stands.
pub record Joined (all kept : List Candidate) : Type 0 where
  pub among : Each (λ one. AnyOf (λ other. other ≡ one) all) kept
  pub covered : Each (λ other. AnyOf (λ one. StandsFor one other) kept) all
