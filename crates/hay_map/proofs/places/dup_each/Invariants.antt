use Rattle.std.proofs.Common.{◌≡◌, ◌≤◌, length, take}
use Rattle.std.specs.Vec.{vec_capacity}
use Rattle.hay_map.proofs.places.dup_each.Given as goal

abbrev pub invariant-loop-place : goal.invariant-loop-place
invariant-loop-place g l = record {
  items : l.copy.items ≡ take l.place-index l.places;
  room : length l.places ≤ vec_capacity l.copy;
}
