use Rattle.std.proofs.Common.{◌≡◌, ◌++◌, drop}
use Rattle.std.specs.Prelude.{map}
use Rattle.hay_audit_steps.specs.BoxReopen as box_reopen
use Rattle.hay_audit.proofs.reopens.all_highs.Given as goal

abbrev pub invariant-loop-parts : goal.invariant-loop-parts
invariant-loop-parts l = l.made ++ map (λ parts. map box_reopen.high_of parts) (drop l.parts-index l.store) ≡ map (λ parts. map box_reopen.high_of parts) l.store
