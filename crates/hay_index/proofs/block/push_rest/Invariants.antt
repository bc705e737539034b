use Rattle.std.proofs.Common.{◌≡◌, ◌++◌, length, take, All}
use Rattle.std.specs.List.{flat_map}
use Rattle.byteorder.specs.Endian.{big_bytes}
use Rattle.hay_index.specs.Records.{RecordFits, record_bytes}
use Rattle.hay_index.proofs.block.push_rest.Given as goal

abbrev pub invariant-loop-record : goal.invariant-loop-record
invariant-loop-record l = record {
  bytes : l.out.items ≡ (l.fn.out.items ++ big_bytes 8 (length l.records)) ++ flat_map record_bytes (take l.record-index l.records);
  fit : All RecordFits (take l.record-index l.records);
}
