use Rattle.std.proofs.Common.{◌≡◌, ◌≤◌, ◌+◌, ◌++◌, reverse, vec_len, vec_capacity}
use Rattle.hay_cluster_block.proofs.arms.together.Given as goal

abbrev pub invariant-loop-arm : goal.invariant-loop-arm
invariant-loop-arm g l = record {
  all : l.first.items ++ reverse l.others.items ≡ l.fn.first.items ++ reverse l.fn.others.items;
  room : vec_len l.first + vec_len l.others ≤ vec_capacity l.others;
}

abbrev pub decreases-loop-arm : goal.decreases-loop-arm
decreases-loop-arm g l = vec_len l.first
