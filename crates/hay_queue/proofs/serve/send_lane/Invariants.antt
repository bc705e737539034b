use Rattle.std.proofs.Common.{◌≡◌, length}
use Rattle.hay_queue.proofs.serve.send_lane.Given as goal

abbrev pub invariant-loop-place : goal.invariant-loop-place
invariant-loop-place g l = record {
  own : l.sender.desk ≡ l.desk;
  same : l.sender.number ≡ l.fn.sender.number;
  sent : length l.sender.names ≡ l.place;
}
