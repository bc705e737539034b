use Rattle.std.proofs.Common.{◌≡◌, true, All, Some, slice_get}
use Rattle.hay_queue.specs.Streams.{stream}
use Rattle.hay_queue.proofs.desk.Desk.settle.Given as goal

abbrev pub invariant-loop-client : goal.invariant-loop-client
invariant-loop-client g l = record {
  same : l.worker ≡ l.fn.worker;
  settled : All (λ c. slice_get l.fn.worker.streams c.number ≡ Some (stream c.names true)) l.yielded;
}
