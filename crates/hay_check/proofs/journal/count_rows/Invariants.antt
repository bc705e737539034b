use Rattle.std.proofs.Common.{◌≡◌, ◌-◌, ◌≤◌, ◌^◌, List}
use Rattle.hay_needle.specs.Super.{super_bytes}
use Rattle.hay_head.specs.Blocks.{HasBlockOf, Reaches}
use Rattle.hay_dirfile.specs.declared.row.DirRow.{DirRow}
use Rattle.hay_dirfile.specs.Journal.{LeadsTo, journal_end}
use Rattle.hay_check.proofs.journal.count_rows.Given as goal

abbrev pub invariant-rows : goal.invariant-rows
invariant-rows g l = record {
  same : g.D.Disk.Tells → g.D.Disk.files l.disk ≡ g.D.Disk.files l.fn.disk;
  lead : g.D.Disk.Tells → (rows : List DirRow) × (l.end ≡ journal_end rows) × LeadsTo (super_bytes l.sup) l.sup.settings.volumes (g.D.Disk.files l.fn.disk 0).now rows;
  far : 64 ≤ l.end;
  file : l.reader.file ≡ 0;
  reaches : Reaches l.reader l.end;
  block : g.D.Disk.Tells → HasBlockOf (g.D.Disk.files l.fn.disk 0).now l.reader;
  faults : g.D.Disk.fault_count l.fn.disk ≤ g.D.Disk.fault_count l.disk;
  fuses : g.D.Disk.fuse_count l.disk ≡ g.D.Disk.fuse_count l.fn.disk;
}

abbrev pub decreases-rows : goal.decreases-rows
decreases-rows g l = 2 ^ 64 - l.end
