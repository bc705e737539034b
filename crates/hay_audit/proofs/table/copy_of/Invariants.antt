use Rattle.std.proofs.Common.{◌≡◌, ◌++◌}
use Rattle.hay_audit.proofs.table.copy_of.Given as goal

abbrev pub invariant-loop-pair : goal.invariant-loop-pair
invariant-loop-pair l = (l.copy).entries ++ l.pair-iterator ≡ (l.photos).entries
