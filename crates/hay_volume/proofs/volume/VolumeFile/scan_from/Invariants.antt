use Rattle.std.proofs.Common.{◌≡◌, ◌+◌, ◌-◌, ◌≤◌, ◌^◌}
use Rattle.hay_disk.specs.Disk.{KeepsOthers}
use Rattle.hay_volume.specs.Needles.{AreHeadsFrom}
use Rattle.hay_volume.proofs.ScanLaws.{IsScanned}
use Rattle.hay_volume.proofs.volume.VolumeFile.scan_from.Given as goal

abbrev pub invariant-cells : goal.invariant-cells
invariant-cells g l = record {
  same : g.D.Disk.Tells → g.D.Disk.files l.disk ≡ g.D.Disk.files l.fn.disk;
  scanned : g.D.Disk.Tells → IsScanned l.at (g.D.Disk.files l.fn.disk l.self.file).now l.heads.items l.end;
  row : AreHeadsFrom l.at l.heads.items l.end;
  drawn : g.D.Disk.Tells → g.D.Disk.drawn l.disk l.self.file + l.at ≤ g.D.Disk.drawn l.fn.disk l.self.file + l.end;
  drawn_others : g.D.Disk.Tells → KeepsOthers l.self.file (g.D.Disk.drawn l.fn.disk) (g.D.Disk.drawn l.disk);
  faults : g.D.Disk.fault_count l.fn.disk ≤ g.D.Disk.fault_count l.disk;
  fuses : g.D.Disk.fuse_count l.disk ≡ g.D.Disk.fuse_count l.fn.disk;
}

abbrev pub decreases-cells : goal.decreases-cells
decreases-cells g l = 2 ^ 64 - l.end
