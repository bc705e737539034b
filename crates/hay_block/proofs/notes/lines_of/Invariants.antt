use Rattle.std.proofs.Common.{◌≡◌, ◌≤◌, take, length, map, vec_len, vec_capacity}
use Rattle.hay_block.specs.Stores.{line_of_tag}
use Rattle.hay_block.proofs.notes.lines_of.Given as goal

abbrev pub invariant-loop-tag : goal.invariant-loop-tag
invariant-loop-tag l = record {
  lines : l.lines.items ≡ map line_of_tag (take l.tag-index l.tags);
  count : vec_len l.lines ≡ l.tag-index;
  room : length l.tags ≤ vec_capacity l.lines;
}
