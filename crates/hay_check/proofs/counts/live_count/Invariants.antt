use Rattle.std.proofs.Common.{◌≤◌, btree_set_len}
use Rattle.hay_check.proofs.Counting.{KeepsFirst}
use Rattle.hay_check.proofs.counts.live_count.Given as goal

abbrev pub invariant-loop-head : goal.invariant-loop-head
invariant-loop-head l = record {
  keeps : KeepsFirst l.live l.heads l.head-index;
  few : btree_set_len l.live ≤ l.head-index;
}
