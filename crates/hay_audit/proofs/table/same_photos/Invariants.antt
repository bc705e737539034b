use Rattle.std.proofs.Common.{◌≡◌}
use Rattle.hay_audit.proofs.table.same_photos.Given as goal

abbrev pub invariant-loop-pair : goal.invariant-loop-pair
invariant-loop-pair l = l.pair-iterator ≡ l.left → (l.photos).entries ≡ (l.others).entries
