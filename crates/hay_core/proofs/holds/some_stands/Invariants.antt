use Rattle.std.proofs.Common.{◌≡◌, drop}
use Rattle.std.specs.List.{list_any}
use Rattle.hay_core.specs.Sides.{stands}
use Rattle.hay_core.proofs.holds.some_stands.Given as goal

abbrev pub invariant-loop-side : goal.invariant-loop-side
invariant-loop-side l = list_any (stands l.pair) l.list ≡ list_any (stands l.pair) (drop l.side-index l.list)
