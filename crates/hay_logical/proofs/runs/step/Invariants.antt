use Rattle.std.proofs.Common.{◌≡◌, ◌≤◌, Some}
use Rattle.hay_open.specs.Stored.{Stored}
use Rattle.hay_physical.specs.OpenCopies.{goal_of, next_of, volume_bytes}
use Rattle.hay_physical.specs.Replicas as physical
use Rattle.hay_physical.specs.CompactionRuns.{HasRun, Run}
use Rattle.hay_logical.specs.Needles.{HeadsLead}
use Rattle.hay_logical.specs.Seen.{StepsTo, replica_seen}
use Rattle.hay_logical.specs.Sights.{sights_of}
use Rattle.hay_logical.specs.ReplicaCalls.{GoesOn, PlacesAre, stepped_by}
use Rattle.hay_logical.proofs.runs.step.Given as goal

abbrev pub invariant-loop-examined : goal.invariant-loop-examined
invariant-loop-examined g l = record {
  on : GoesOn g.D.Disk.Tells g.D.Disk.files l.fn.replica l.replica;
  seen : StepsTo l.examined l.examined (replica_seen l.fn.replica) (replica_seen l.replica);
  goal : goal_of l.replica ≡ goal_of l.fn.replica;
  counts : g.D.Disk.fault_count l.fn.replica.disk ≤ g.D.Disk.fault_count l.replica.disk;
  bytes : g.D.Disk.Tells → volume_bytes g.D.Disk.files l.replica ≡ volume_bytes g.D.Disk.files l.fn.replica;
  lead : g.D.Disk.Tells → HeadsLead (sights_of l.rows) l.at l.examined (next_of l.fn.replica) (next_of l.replica) (volume_bytes g.D.Disk.files l.fn.replica);
  fuses : g.D.Disk.fuse_count l.replica.disk ≡ g.D.Disk.fuse_count l.fn.replica.disk;
  stepped : g.D.Disk.Tells → (s : Stored) (run : Run) → physical.Stands g.D.Disk.files l.fn.replica s → HasRun g.D.Disk.files l.fn.replica s (Some run) → PlacesAre g.D.Piece.Piece.Tells l.rows l.at s
      → (l.examined ≤ run.left) × HasRun g.D.Disk.files l.replica s (Some (stepped_by l.examined run));
}
