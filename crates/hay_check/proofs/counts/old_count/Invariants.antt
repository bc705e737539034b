use Rattle.std.proofs.Common.{◌≡◌, take}
use Rattle.std.specs.Prelude.{count_by}
use Rattle.hay_needle.specs.declared.needle.CellHead.{CellHead}
use Rattle.hay_check.specs.Verdicts.{is_old}
use Rattle.hay_check.proofs.counts.old_count.Given as goal

abbrev pub invariant-loop-head : goal.invariant-loop-head
invariant-loop-head l = l.old ≡ count_by (λ (head : CellHead). is_old head.version) (take l.head-index l.heads)
