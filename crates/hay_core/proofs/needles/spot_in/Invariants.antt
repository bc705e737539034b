use Rattle.std.proofs.Common.{◌≡◌, drop}
use Rattle.hay_core.specs.Spots.{spot_after, spot_in}
use Rattle.hay_core.proofs.needles.spot_in.Given as goal

abbrev pub invariant-loop-entry : goal.invariant-loop-entry
invariant-loop-entry l = spot_after (drop l.entry-index l.mapped) l.pair l.spot ≡ spot_in l.mapped l.pair
