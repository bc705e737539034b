use Rattle.std.proofs.Common.{◌≡◌, ◌≤◌, ◌<◌, ℕ, List, length}
use Rattle.hay_index.specs.declared.record.Record.{Record}
use Rattle.hay_index.specs.Records.{IsIndex}
use Rattle.hay_open.proofs.Walks.{IsWalked}
use Rattle.hay_open.proofs.record.record_place.Given as goal

abbrev pub invariant-blocks-2 : goal.invariant-blocks-2
invariant-blocks-2 g l = record {
  same : g.D.Disk.Tells → g.D.Disk.files l.disk ≡ g.D.Disk.files l.fn.disk;
  walked : g.D.Disk.Tells → (superblock : List ℕ) (records : List Record) (end : ℕ) → IsIndex superblock (g.D.Disk.files l.fn.disk l.file).now records end → l.number < length records
      → IsWalked superblock (g.D.Disk.files l.fn.disk l.file).now records l.start l.left l.number;
  faults : g.D.Disk.fault_count l.fn.disk ≤ g.D.Disk.fault_count l.disk;
  fuses : g.D.Disk.fuse_count l.disk ≡ g.D.Disk.fuse_count l.fn.disk;
}

abbrev pub decreases-blocks-2 : goal.decreases-blocks-2
decreases-blocks-2 g l = l.left
