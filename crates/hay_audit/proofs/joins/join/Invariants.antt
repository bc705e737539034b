use Rattle.std.proofs.Common.{◌≡◌, ◌++◌, List}
use Rattle.hay_audit.specs.declared.judge.Candidate.{Candidate}
use Rattle.hay_audit.specs.Joined.{Joined}
use Rattle.hay_audit.proofs.joins.join.Given as goal

abbrev pub invariant-loop-candidate : goal.invariant-loop-candidate
invariant-loop-candidate l = (done : List Candidate) × (l.fn.candidates ≡ done ++ l.candidate-iterator.rest.items) × Joined done l.kept
