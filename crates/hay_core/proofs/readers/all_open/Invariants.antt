use Rattle.std.proofs.Common.{◌≡◌, drop}
use Rattle.std.specs.List.{list_all}
use Rattle.hay_core.proofs.readers.all_open.Given as goal

abbrev pub invariant-loop-side : goal.invariant-loop-side
invariant-loop-side l = list_all (λ s. s.is_open) l.list ≡ list_all (λ s. s.is_open) (drop l.side-index l.list)
