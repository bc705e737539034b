-- What sources and sinks in memory tell.
use Rattle.std.specs.Prelude.{ℕ, List, Option, Some, drop}
use Rattle.hay_memdisk.specs.declared.stream.MemSource.{MemSource}
use Rattle.hay_memdisk.specs.declared.stream.MemSink.{MemSink}
use Rattle.hay_memdisk.specs.Failures.{fault_count, listed_in}

-- the bytes left
abbrev pub source_left : MemSource → Option (List ℕ)
source_left source = Some (drop source.taken source.bytes.items)

-- how many reads have failed
abbrev pub source_faults : MemSource → ℕ
source_faults source = fault_count source.failures

-- the bytes written
abbrev pub sink_written : MemSink → Option (List ℕ)
sink_written sink = Some sink.bytes.items

-- how many writes have failed
abbrev pub sink_faults : MemSink → ℕ
sink_faults sink = fault_count sink.failures

-- the reads that are to fail
abbrev pub source_listed : MemSource → List ℕ
source_listed source = listed_in source.failures

-- the writes that are to fail
abbrev pub sink_listed : MemSink → List ℕ
sink_listed sink = listed_in sink.failures
