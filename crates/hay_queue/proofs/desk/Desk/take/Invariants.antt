use Rattle.std.proofs.Common.{◌≡◌}
use Rattle.hay_queue.specs.Desks.{TakesEnds}
use Rattle.hay_queue.proofs.desk.Desk.take.Given as goal

abbrev pub invariant-loop : goal.invariant-loop
invariant-loop g l = record {
  own : l.worker.desk ≡ l.self;
  ends : TakesEnds l.fn.worker.streams l.worker.streams;
}
