use Rattle.std.proofs.Common.{◌≤◌, ◌-◌, length, take}
use Rattle.hay_index.specs.Records.{AreInRow, HasRecords}
use Rattle.hay_index.proofs.reading.read_blocks.Given as goal

abbrev pub invariant-scan : goal.invariant-scan
invariant-scan l = record {
  lead : HasRecords (take 64 l.bytes) l.bytes l.records.items l.end;
  in_row : AreInRow 64 l.records.items;
  within : l.end ≤ length l.bytes;
}

abbrev pub decreases-scan : goal.decreases-scan
decreases-scan l = length l.bytes - l.end
