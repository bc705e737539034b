use Rattle.std.proofs.Common.{◌≤◌, take}
use Rattle.std.specs.Prelude.{flat_map}
use Rattle.hay_disk.specs.Streams.{Wrote}
use Rattle.hay_reply.specs.Replies.{note_line}
use Rattle.hay_run.specs.Turns.{Appends}
use Rattle.hay_run.proofs.writing.write_notes.Given as goal

abbrev pub invariant-loop-note : goal.invariant-loop-note
invariant-loop-note g l = record {
  wrote : Wrote (g.K.Sink.written l.fn.sink) (flat_map note_line (take l.note-index l.fn.notes)) (g.K.Sink.written l.sink);
  count : g.K.Sink.fault_count l.fn.sink ≤ g.K.Sink.fault_count l.sink;
  appends : Appends (g.K.Sink.written l.fn.sink) (g.K.Sink.written l.sink);
}
