use Rattle.std.proofs.Common.{◌≡◌, ◌++◌, drop}
use Rattle.std.specs.Prelude.{map}
use Rattle.hay_audit_steps.specs.BoxReopen as box_reopen
use Rattle.hay_audit.proofs.reopens.lows_of.Given as goal

abbrev pub invariant-loop-part : goal.invariant-loop-part
invariant-loop-part l = l.made ++ map box_reopen.low_of (drop l.part-index l.parts) ≡ map box_reopen.low_of l.parts
