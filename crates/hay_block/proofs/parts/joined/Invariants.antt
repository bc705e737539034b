use Rattle.std.proofs.Common.{◌≡◌, ◌+◌, ◌≤◌, ◌++◌, map, vec_len, vec_capacity}
use Rattle.std.specs.Vec.Iter.{into_iter_items, into_iter_len}
use Rattle.hay_block.proofs.parts.joined.Given as goal

abbrev pub invariant-loop-directory : goal.invariant-loop-directory
invariant-loop-directory g l = record {
  volumes : map (λ c. c.volumes) l.lanes.items ++ into_iter_items l.rooms ≡ l.fn.rooms.items;
  directory : map (λ c. c.directory) l.lanes.items ++ into_iter_items l.directory-iterator ≡ l.fn.directory.items;
  arms : map (λ c. c.arm) l.lanes.items ++ into_iter_items l.arms ≡ l.fn.arms.items;
  same_rooms : into_iter_len l.directory-iterator ≡ into_iter_len l.rooms;
  same_arms : into_iter_len l.directory-iterator ≡ into_iter_len l.arms;
  room : vec_len l.lanes + into_iter_len l.directory-iterator ≤ vec_capacity l.lanes;
}
