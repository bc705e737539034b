use Rattle.std.proofs.Common.{◌≡◌, drop}
use Rattle.std.specs.List.{list_any}
use Rattle.hay_core.proofs.holds.some_settled.Given as goal

abbrev pub invariant-loop-side : goal.invariant-loop-side
invariant-loop-side l = list_any (λ s. s.settled) l.list ≡ list_any (λ s. s.settled) (drop l.side-index l.list)
