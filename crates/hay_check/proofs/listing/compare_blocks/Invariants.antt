use Rattle.std.proofs.Common.{◌≤◌, ◌-◌, length, map, take}
use Rattle.hay_index.specs.Records.{HasRecords}
use Rattle.hay_open.specs.Listing.{head_record}
use Rattle.hay_check.proofs.listing.compare_blocks.Given as goal

abbrev pub invariant-scan : goal.invariant-scan
invariant-scan l = record {
  lead : HasRecords (take 64 l.bytes) l.bytes (take l.count (map head_record l.heads)) l.end;
  few : l.count ≤ length (map head_record l.heads);
  within : l.end ≤ length l.bytes;
}

abbrev pub decreases-scan : goal.decreases-scan
decreases-scan l = length l.bytes - l.end
