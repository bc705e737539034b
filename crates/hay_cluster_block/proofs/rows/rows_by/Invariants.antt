use Rattle.std.proofs.Common.{◌≡◌, ◌≤◌, take, length, map, filter_map, vec_len, vec_capacity}
use Rattle.std.specs.List.{AllByRecursion}
use Rattle.hay_reply.specs.Fits.{FitsRow}
use Rattle.hay_block.specs.Stores.{line_of_tag}
use Rattle.hay_cluster_block.specs.Rows.{home_kept, row_by}
use Rattle.hay_cluster_block.proofs.rows.rows_by.Given as goal

abbrev pub invariant-loop-tag : goal.invariant-loop-tag
invariant-loop-tag l = record {
  rows : l.rows.items ≡ filter_map (λ line. row_by line (home_kept l.homes line)) (map line_of_tag (take l.tag-index l.added));
  fits : AllByRecursion FitsRow l.rows.items;
  count : vec_len l.rows ≤ l.tag-index;
  room : length l.added ≤ vec_capacity l.rows;
}
