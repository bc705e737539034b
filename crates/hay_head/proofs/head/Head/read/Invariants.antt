use Rattle.std.proofs.Common.{◌≡◌, ◌+◌, ◌-◌, ◌≤◌}
use Rattle.hay_disk.specs.Disk.{KeepsOthers}
use Rattle.hay_needle.specs.Super.{super_bytes}
use Rattle.hay_needle.specs.declared.settings.TheConstants.{LAST_GENERATION}
use Rattle.hay_head.specs.Blocks.{HasBlockOf, Reaches, block_end}
use Rattle.hay_head.specs.Head.{LeadsTo, row_place}
use Rattle.hay_head.proofs.head.Head.read.Given as goal

abbrev pub invariant-rows : goal.invariant-rows
invariant-rows g l = record {
  most : l.rows ≤ LAST_GENERATION + 1;
  same : g.D.Disk.Tells → g.D.Disk.files l.disk ≡ g.D.Disk.files l.fn.disk;
  lead : g.D.Disk.Tells → LeadsTo (super_bytes l.sup) (g.D.Disk.files l.fn.disk 0).now l.rows;
  file : l.reader.file ≡ 0;
  reaches : Reaches l.reader (row_place l.rows);
  block : g.D.Disk.Tells → HasBlockOf (g.D.Disk.files l.fn.disk 0).now l.reader;
  drawn : g.D.Disk.Tells → g.D.Disk.drawn l.disk 0 ≤ g.D.Disk.drawn l.fn.disk 0 + block_end l.reader;
  drawn_others : g.D.Disk.Tells → KeepsOthers 0 (g.D.Disk.drawn l.fn.disk) (g.D.Disk.drawn l.disk);
  faults : g.D.Disk.fault_count l.fn.disk ≤ g.D.Disk.fault_count l.disk;
  fuses : g.D.Disk.fuse_count l.disk ≡ g.D.Disk.fuse_count l.fn.disk;
}

abbrev pub decreases-rows : goal.decreases-rows
decreases-rows g l = LAST_GENERATION + 1 - l.rows
