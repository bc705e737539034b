use Rattle.std.proofs.Common.{◌≡◌, ◌≤◌, ◌+◌, ◌*◌, length}
use Rattle.std.specs.Prelude.{◌^◌, sum_by}
use Rattle.hay_needle.specs.Sizes.{needle_total}
use Rattle.hay_audit.proofs.table.live_end_of.Given as goal

abbrev pub invariant-loop-pair : goal.invariant-loop-pair
invariant-loop-pair l = record {
  total : l.end + sum_by (λ photo. needle_total (length (photo.1).bytes)) l._pair-iterator ≡ 64 + sum_by (λ photo. needle_total (length (photo.1).bytes)) (l.photos).entries;
  few : l.end + length l._pair-iterator * (2 ^ 64 + 64) ≤ 64 + 2 ^ 63 * (2 ^ 64 + 64);
}
