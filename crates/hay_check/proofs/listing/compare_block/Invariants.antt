use Rattle.std.proofs.Common.{◌≡◌, ◌+◌, ◌*◌, map, take}
use Rattle.hay_open.specs.Listing.{head_record}
use Rattle.hay_check.proofs.listing.compare_block.Given as goal

abbrev pub invariant-loop-i : goal.invariant-loop-i
invariant-loop-i l = record {
  place : l.at ≡ l.first + 32 * l.i;
  fit : take l.i l.block ≡ take l.i (map head_record l.heads);
}
