use Rattle.hay_batch.specs.Stores.{AreTries}
use Rattle.hay_batch.proofs.store.LoadStore.find_room.Given as goal

abbrev pub invariant-loop-turn : goal.invariant-loop-turn
invariant-loop-turn g l = AreTries l.self l.key l.need l.turn l.tries
