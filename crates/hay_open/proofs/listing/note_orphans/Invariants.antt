use Rattle.std.proofs.Common.{◌≡◌, ◌++◌, map, take}
use Rattle.hay_open.specs.Listing.{head_record}
use Rattle.hay_open.proofs.listing.note_orphans.Given as goal

abbrev pub invariant-loop-head : goal.invariant-loop-head
invariant-loop-head l = record {
  rows : l.rows.items ≡ l.fn.rows.items ++ map head_record (take l.head-index l.orphans);
  noted : l.index ≡ record l.fn.index { pending = l.fn.index.pending ++ map head_record (take l.head-index l.orphans) };
}
