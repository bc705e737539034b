use Rattle.std.proofs.Common.{◌≤◌, length}
use Rattle.std.specs.Vec.{vec_capacity}
use Rattle.hay_batch.proofs.SlotLaws.{FilesFirst}
use Rattle.hay_batch.proofs.disks.open_files.Given as goal

abbrev pub invariant-loop-slot : goal.invariant-loop-slot
invariant-loop-slot g l = record {
  files : FilesFirst g.D.Disk.Tells g.D.Disk.files g.D.Disk.fault_count g.D.Disk.fuse_count l.settings l.slot l.fn.disks l.disks l.files.items;
  room : length l.fn.disks ≤ vec_capacity l.files;
}
