use Rattle.std.proofs.Common.{◌≤◌, List, map, take}
use Rattle.std.specs.Prelude.{flat_map}
use Rattle.hay_disk.specs.Streams.{Wrote}
use Rattle.hay_legal.specs.declared.turn.LaneItem.{LaneItem}
use Rattle.hay_legal.specs.Items.{InBlock}
use Rattle.hay_legal.specs.Transcript.{answered_line}
use Rattle.hay_run.specs.Blocks.{AreAnswered, ArePlaces}
use Rattle.hay_run.specs.Turns.{Appends}
use Rattle.hay_run.proofs.writing.write_replies.Given as goal

abbrev pub invariant-loop-place : goal.invariant-loop-place
invariant-loop-place g l = record {
  wrote : (lines : List InBlock) (items : List LaneItem) → ArePlaces lines l.fn.places → AreAnswered lines (map (λ own. own.items) l.fn.replies) items
      → Wrote (g.K.Sink.written l.fn.sink) (flat_map answered_line (take l.place-index items)) (g.K.Sink.written l.sink);
  count : g.K.Sink.fault_count l.fn.sink ≤ g.K.Sink.fault_count l.sink;
  appends : Appends (g.K.Sink.written l.fn.sink) (g.K.Sink.written l.sink);
}
