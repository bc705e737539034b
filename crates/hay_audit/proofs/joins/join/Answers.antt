use Rattle.std.proofs.Common.{◌≡◌, ◌∷◌, ◌++◌, List, [], sym, ap, ◌∙◌, append_assoc}
use Rattle.hay_audit.specs.declared.judge.Candidate.{Candidate}
use Rattle.hay_audit.proofs.joins.join.Goals as goal

pub loop-candidate-preserved : goal.loop-candidate-preserved
loop-candidate-preserved c =
    let before = c.loop-candidate.invariant in (
      before.0 ++ c.in-Some.candidate ∷ [],
      before.1 ∙ ap (λ (xs : List Candidate). before.0 ++ xs) (c.in-Some.ensures.steps).0 ∙ sym (append_assoc before.0 (c.in-Some.candidate ∷ []) c.next.new.self.rest.items),
      c.in_ok-keep.ensures before.0 before.2,
    )
