use Rattle.std.proofs.Common.{drop}
use Rattle.std.specs.Prelude.{◌↔◌}
use Rattle.hay_audit_steps.specs.Boxes.{Has}
use Rattle.hay_audit_steps.specs.Judged.{IsUsed}
use Rattle.hay_audit.specs.Candidates.{AreKept, all_standing}
use Rattle.hay_audit.proofs.judge.is_used.Given as goal

abbrev pub invariant-loop-candidate : goal.invariant-loop-candidate
invariant-loop-candidate l =
    (IsUsed Has (all_standing l.transcript l.candidates) ↔ IsUsed Has (all_standing l.transcript (drop l.candidate-index l.candidates)))
    × AreKept l.settings l.transcript (drop l.candidate-index l.candidates)
