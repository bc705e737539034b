use Rattle.std.proofs.Common.{◌≡◌, ◌≤◌, take, drop, reverse, vec_len, vec_capacity}
use Rattle.hay_cluster_block.proofs.arms.apart.Given as goal

abbrev pub invariant-loop : goal.invariant-loop
invariant-loop g l = record {
  first : l.first.items ≡ take l.counter l.fn.arms.items;
  rest : l.arms.items ≡ reverse (drop l.counter l.fn.arms.items);
  count : vec_len l.first ≡ l.counter;
  room : l.lanes ≤ vec_capacity l.first;
  wide : vec_len l.fn.arms ≤ vec_capacity l.arms;
}
