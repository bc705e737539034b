use Rattle.std.proofs.Common.{◌≡◌, []}
use Rattle.crossbeam_channel.specs.Claims.{view}
use Rattle.hay_queue.specs.Desks.{desk_of}
use Rattle.hay_queue.proofs.desk.Desk.push.Given as goal

abbrev pub invariant-loop : goal.invariant-loop
invariant-loop g l = record {
  own : desk_of l.pass ≡ l.self;
  rests : l.pass.me.1 ≡ [];
  same : view l.pass ≡ view l.fn.pass;
  message : l.message ≡ l.fn.message;
}
