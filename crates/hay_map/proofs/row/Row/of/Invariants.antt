use Rattle.std.proofs.Common.{◌≡◌, take}
use Rattle.hay_map.proofs.row.Row.of.Given as goal

abbrev pub invariant-loop-place : goal.invariant-loop-place
invariant-loop-place g l = l.row ≡ take l.place-index l.places
