use Rattle.std.proofs.Common.{◌≡◌, ◌++◌}
use Rattle.std.specs.Prelude.{map}
use Rattle.hay_audit_steps.specs.BoxReopen as box_reopen
use Rattle.hay_audit.proofs.reopens.bases_of.Given as goal

abbrev pub invariant-loop-part : goal.invariant-loop-part
invariant-loop-part l = l.made ++ map box_reopen.base_of l.part-iterator.rest.items ≡ map box_reopen.base_of l.fn.parts
