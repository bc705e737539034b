-- What an opening reads of a replica's disk that tells, whatever the disk has.
use Rattle.std.specs.Prelude.{◌≡◌, ℕ, List, length}
use Rattle.hay_needle.specs.declared.needle.Cell.{Cell}
use Rattle.hay_disk.specs.Disk.{Files}
use Rattle.hay_index.specs.declared.record.Record.{Record}
use Rattle.hay_map.specs.declared.view.OpenCell.{OpenCell}
use Rattle.hay_open.specs.Damage.{ReadsAs}
use Rattle.hay_open.specs.Finds.{AreCellsOf}
use Rattle.hay_physical.specs.OpenCopies.{Copy, bare_of, contents_of, end_of, generation_of}

-- The generation, the end, and how many cells have no record, are those that were read. The places are those of the records, none of which
-- was looked at, and of the cells without one.
pub record IsReadOn {D P : Type 0} (files : D → Files) (Tells : Type 0) (r : Copy D) (places : List (OpenCell P)) : Type 0 where
  pub records : List Record
  pub orphans : List Cell
  pub reads : ReadsAs r.sup (contents_of files r.disk) (generation_of r) records orphans (end_of r)
  pub bare : bare_of r ≡ length orphans
  pub cells : AreCellsOf Tells records orphans places
