use Rattle.std.proofs.Common.{◌≡◌, ℕ, ◌<◌, ◌≤◌, List, length}
use Rattle.std.specs.List.{list_any}
use Rattle.hay_disk.specs.Streams.{Wrote}
use Rattle.hay_mount.specs.Mounts.{InOrder, SameFrom}
use Rattle.hay_check.specs.declared.verdict.Verdict.{Verdict}
use Rattle.hay_cluster.specs.Outside.{read_of}
use Rattle.hay_run.specs.Turns.{Appends}
use Rattle.hay_run.specs.Checking.{IsUnchanged, IsVerdictIn, IsVerdictOn, check_text, is_damaged}
use Rattle.hay_run.proofs.check.check_slots.Given as goal

abbrev pub invariant-loop-slot : goal.invariant-loop-slot
invariant-loop-slot g l = record {
  verdicts : List Verdict;
  count : length verdicts ≡ l.slot;
  kinds : InOrder IsVerdictIn 0 verdicts;
  each : g.H.Disk.Disk.Tells → InOrder (λ slot verdict. IsVerdictOn l.settings slot (read_of (g.H.Shelf.disks l.fn.shelf slot)) verdict) 0 verdicts;
  damage : l.damaged ≡ list_any is_damaged verdicts;
  wrote : Wrote (g.K.Sink.written l.fn.sink) (check_text l.settings verdicts) (g.K.Sink.written l.sink);
  below : (slot : ℕ) → slot < l.slot → IsUnchanged g.H.Disk.Disk.Tells (g.H.Shelf.disks l.fn.shelf slot) (g.H.Shelf.disks l.shelf slot);
  rest : SameFrom l.slot (g.H.Shelf.disks l.fn.shelf) (g.H.Shelf.disks l.shelf);
  lanes : g.H.Shelf.arms l.shelf ≡ g.H.Shelf.arms l.fn.shelf;
  shelf : g.H.Shelf.fault_count l.fn.shelf ≤ g.H.Shelf.fault_count l.shelf;
  sink : g.K.Sink.fault_count l.fn.sink ≤ g.K.Sink.fault_count l.sink;
  appends : Appends (g.K.Sink.written l.fn.sink) (g.K.Sink.written l.sink);
}
