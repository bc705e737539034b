use Rattle.std.proofs.Common.{◌≡◌, ◌≤◌, ◌++◌, drop, length, map, vec_len, vec_capacity, Vec, Global}
use Rattle.hay_front.specs.declared.front.Tag.{Tag}
use Rattle.hay_block.specs.Stores.{line_of_tag, notes_from}
use Rattle.hay_block.proofs.notes.log_notes.Given as goal

abbrev pub invariant-loop-i : goal.invariant-loop-i
invariant-loop-i l = record {
  notes : l.notes.items ++ notes_from l.i (drop l.i l.fronts) (drop l.i (map (λ (own : Vec Tag Global). map line_of_tag own.items) l.tags))
      ≡ notes_from 0 l.fronts (map (λ (own : Vec Tag Global). map line_of_tag own.items) l.tags);
  count : vec_len l.notes ≤ l.i;
  room : length l.tags ≤ vec_capacity l.notes;
}
