use Rattle.std.proofs.Common.{◌≡◌, ◌≤◌, [], vec_len, vec_capacity}
use Rattle.std.specs.List.{AllByRecursion}
use Rattle.hay_block.proofs.parts.seat_rooms.Given as goal

abbrev pub invariant-loop : goal.invariant-loop
invariant-loop g l = record {
  many : vec_len l.rooms ≡ l.counter;
  room : l.lanes ≤ vec_capacity l.rooms;
  each : AllByRecursion (λ room. (room.items ≡ []) × (l.volumes ≤ vec_capacity room)) l.rooms.items;
}
