use Rattle.std.proofs.Common.{◌≡◌, ℕ, ◌+◌, ◌≤◌, List, map}
use Rattle.hay_needle.specs.declared.needle.Cell.{Cell}
use Rattle.hay_index.specs.Records.{place_behind}
use Rattle.hay_open.specs.Finds.{AreOfRows}
use Rattle.hay_open.specs.Listing.{ArePlaced, GivesPieces, ListsCells}
use Rattle.hay_volume.specs.Cells.{HasCells, cell_head}
use Rattle.hay_open.proofs.PlaceLaws.{AddsOrphans}
use Rattle.hay_open.proofs.places.open_orphans.Given as goal

abbrev pub invariant-loop-head : goal.invariant-loop-head
invariant-loop-head g l = record {
  pieces : g.D.Disk.Tells → GivesPieces l.listing.volume l.listing.rows.items (place_behind 64 l.listing.rows.items) (g.D.Disk.files l.fn.disk) (g.D.Disk.files l.disk);
  placed : g.D.Disk.Tells → (whole : List Cell) → ListsCells (g.D.Disk.files l.fn.disk l.listing.volume).now l.listing whole → ArePlaced g.D.Piece.Piece.Tells whole l.listing.recorded l.fn.cells.items
      → ArePlaced g.D.Piece.Piece.Tells whole (l.listing.recorded + l.head-index) l.cells.items;
  seen : g.D.Disk.Tells → (orphans : List Cell) (from end : ℕ) → HasCells from (g.D.Disk.files l.fn.disk l.listing.volume).now orphans end → l.listing.orphans.items ≡ map cell_head orphans
      → AddsOrphans g.D.Piece.Piece.Tells orphans l.head-index l.fn.cells.items l.cells.items;
  of : AreOfRows l.listing.rows.items l.fn.cells.items → AreOfRows l.listing.rows.items l.cells.items;
  drawn : g.D.Disk.Tells → (n : ℕ) → g.D.Disk.drawn l.disk n ≡ g.D.Disk.drawn l.fn.disk n;
  faults : g.D.Disk.fault_count l.fn.disk ≤ g.D.Disk.fault_count l.disk;
  fuses : g.D.Disk.fuse_count l.disk ≡ g.D.Disk.fuse_count l.fn.disk;
}
