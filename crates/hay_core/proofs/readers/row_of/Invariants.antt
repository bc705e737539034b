use Rattle.std.proofs.Common.{◌≡◌, map, take}
use Rattle.hay_core.specs.Spots.{spot_in}
use Rattle.hay_core.proofs.readers.row_of.Given as goal

abbrev pub invariant-loop-side : goal.invariant-loop-side
invariant-loop-side l = l.row ≡ map (λ s. spot_in s.spots l.pair) (take l.side-index l.list)
