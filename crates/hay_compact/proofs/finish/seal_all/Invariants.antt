use Rattle.std.proofs.Common.{◌≡◌, ◌≤◌, ℕ, drop}
use Rattle.std.specs.Prelude.{All, map}
use Rattle.hay_needle.specs.declared.settings.Super.{Super}
use Rattle.hay_disk.specs.Disk.{KeepsOthers}
use Rattle.hay_open.specs.Stored.{Stored, VolumeRests, cell_record}
use Rattle.hay_open.specs.Finds.{ArePlacesWithin}
use Rattle.hay_compact.specs.Copying.{RowWithin}
use Rattle.hay_compact.specs.Finishing.{ArePhotos, ArePlacesSoFar, CanSeal}
use Rattle.hay_compact.proofs.finish.seal_all.Given as goal

abbrev pub invariant-loop-row : goal.invariant-loop-row
invariant-loop-row g l = record {
  rests : g.D.Disk.Tells → (sup : Super) (s : Stored) → VolumeRests sup (g.D.Disk.files l.fn.disk l.file) s → l.records ≡ map cell_record s.cells → VolumeRests sup (g.D.Disk.files l.disk l.file) s;
  places : g.D.Disk.Tells → (sup : Super) (s : Stored) → CanSeal sup (g.D.Disk.files l.fn.disk l.file) l.standing s → l.records ≡ map cell_record s.cells
      → ArePlacesSoFar g.D.Piece.Piece.Tells s.cells (drop l.row-index s.cells) l.places.items;
  others : g.D.Disk.Tells → KeepsOthers l.file (g.D.Disk.files l.fn.disk) (g.D.Disk.files l.disk);
  drawn : g.D.Disk.Tells → (n : ℕ) → g.D.Disk.drawn l.disk n ≡ g.D.Disk.drawn l.fn.disk n;
  faults : g.D.Disk.fault_count l.fn.disk ≤ g.D.Disk.fault_count l.disk;
  photos : ArePhotos l.places.items;
  within : (end : ℕ) → All (RowWithin end) l.records → ArePlacesWithin end l.places.items;
  fuses : g.D.Disk.fuse_count l.disk ≡ g.D.Disk.fuse_count l.fn.disk;
}
