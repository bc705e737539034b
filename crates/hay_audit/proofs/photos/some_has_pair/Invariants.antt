use Rattle.std.proofs.Common.{◌≡◌, drop}
use Rattle.std.specs.List.{list_any}
use Rattle.hay_legal.specs.Plain as plain
use Rattle.hay_audit.proofs.photos.some_has_pair.Given as goal

abbrev pub invariant-loop-replica : goal.invariant-loop-replica
invariant-loop-replica l =
    list_any (plain.has_pair l.volume l.pair) (l.volume).replicas ≡ list_any (plain.has_pair l.volume l.pair) (drop l.replica-index l.replica-items)
