use Rattle.std.proofs.Common.{◌≤◌, vec_capacity}
use Rattle.hay_queue.specs.Benches.{HasRooms}
use Rattle.hay_queue.proofs.serve.rooms_for.Given as goal

abbrev pub invariant-loop-client : goal.invariant-loop-client
invariant-loop-client g l = record {
  rooms : HasRooms l.share.seat l.share.seats l.jobs l.client l.rooms.items;
  room : l.clients ≤ vec_capacity l.rooms;
}
