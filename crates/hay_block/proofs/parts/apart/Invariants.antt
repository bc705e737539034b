use Rattle.std.proofs.Common.{◌≡◌, ◌+◌, ◌≤◌, ◌++◌, map, vec_len, vec_capacity}
use Rattle.std.specs.Vec.Iter.{into_iter_items, into_iter_len}
use Rattle.hay_block.proofs.parts.apart.Given as goal

abbrev pub invariant-loop-lane : goal.invariant-loop-lane
invariant-loop-lane g l = record {
  directory : l.directory.items ++ map (λ c. c.directory) (into_iter_items l.lane-iterator) ≡ map (λ c. c.directory) l.fn.lanes.items;
  arms : l.arms.items ++ map (λ c. c.arm) (into_iter_items l.lane-iterator) ≡ map (λ c. c.arm) l.fn.lanes.items;
  directory_room : vec_len l.directory + into_iter_len l.lane-iterator ≤ vec_capacity l.directory;
  arm_room : vec_len l.arms + into_iter_len l.lane-iterator ≤ vec_capacity l.arms;
}
