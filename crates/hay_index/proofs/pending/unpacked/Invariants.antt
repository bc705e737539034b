use Rattle.std.proofs.Common.{◌≡◌, take}
use Rattle.hay_index.proofs.pending.unpacked.Given as goal

abbrev pub invariant-loop-record : goal.invariant-loop-record
invariant-loop-record l = l.rows.items ≡ take l.record-index l.records
