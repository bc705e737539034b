use Rattle.std.proofs.Common.{◌≡◌, ◌≤◌, [], replicate, vec_capacity}
use Rattle.crossbeam_channel.specs.Claims.{view}
use Rattle.hay_queue.specs.Desks.{desk_of, AreNew}
use Rattle.hay_queue.specs.Rule.{worker_pass}
use Rattle.hay_queue.specs.Streams.{empty}
use Rattle.hay_queue.proofs.desk.Desk.admit.Given as goal

abbrev pub invariant-loop-number : goal.invariant-loop-number
invariant-loop-number g l = record {
  own : desk_of l.pass ≡ l.self;
  rests : l.pass.me.1 ≡ [];
  knows : view l.pass ≡ worker_pass (replicate l.number empty);
  clients : AreNew l.self l.number l.admitted.items;
  room : l.clients ≤ vec_capacity l.admitted;
}
