use Rattle.hay_map.proofs.Changes.{SetsFirst}
use Rattle.hay_map.proofs.view.MapView.set_row.Given as goal

abbrev pub invariant-loop-replica : goal.invariant-loop-replica
invariant-loop-replica g l = SetsFirst l.pair l.row l.replica l.initial.self l.self
