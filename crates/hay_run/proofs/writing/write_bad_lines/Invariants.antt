use Rattle.std.proofs.Common.{◌≤◌, take}
use Rattle.std.specs.Prelude.{flat_map}
use Rattle.hay_disk.specs.Streams.{Wrote}
use Rattle.hay_run.specs.Blocks.{bad_text}
use Rattle.hay_run.specs.Turns.{Appends}
use Rattle.hay_run.proofs.writing.write_bad_lines.Given as goal

abbrev pub invariant-loop-line : goal.invariant-loop-line
invariant-loop-line g l = record {
  wrote : Wrote (g.K.Sink.written l.fn.sink) (flat_map bad_text (take l.line-index l.fn.lines)) (g.K.Sink.written l.sink);
  count : g.K.Sink.fault_count l.fn.sink ≤ g.K.Sink.fault_count l.sink;
  appends : Appends (g.K.Sink.written l.fn.sink) (g.K.Sink.written l.sink);
}
