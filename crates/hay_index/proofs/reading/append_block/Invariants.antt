use Rattle.std.proofs.Common.{◌≡◌, ◌+◌, ◌*◌, ◌++◌, take}
use Rattle.hay_index.specs.Records.{AreInRow}
use Rattle.hay_index.proofs.reading.append_block.Given as goal

abbrev pub invariant-loop-row : goal.invariant-loop-row
invariant-loop-row l = record {
  place : l.at ≡ l.first + 32 * l.row-index;
  added : l.records.items ≡ l.initial.records.items ++ take l.row-index l.block;
  in_row : AreInRow 64 l.records.items;
}
