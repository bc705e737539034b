use Rattle.std.proofs.Common.{ℕ, ◌<◌}
use Rattle.hay_map.specs.Places.{place_in}
use Rattle.hay_map.specs.Rows.{row_at}
use Rattle.hay_open.specs.Stored.{Stored}
use Rattle.hay_compact.specs.Finishing.{IsSeen}
use Rattle.hay_physical.specs.OpenCopies.{Copy, volume_bytes}
use Rattle.hay_physical.specs.Replicas as physical
use Rattle.hay_logical.specs.Fits.{At}
use Rattle.hay_logical.specs.Needles.{HasLiveNeedles}
use Rattle.hay_logical.specs.Notes.{IsToldPlace}
use Rattle.hay_logical.specs.Sights.{sights_of}
use Rattle.hay_logical.specs.ReplicaCalls.{PlacesAre}
use Rattle.hay_logical.proofs.Drawing.{DrawsLooks}
use Rattle.hay_logical.proofs.Looks.{Looks}
use Rattle.hay_logical.proofs.sights.see_undamaged.Given as goal

abbrev pub invariant-loop-at : goal.invariant-loop-at
invariant-loop-at g l = record {
  looks : Looks g.D.Disk.Tells g.D.Disk.files g.D.Piece.Piece.Tells g.D.Disk.fault_count g.D.Disk.fuse_count l.fn.replicas l.replicas l.fn.rows l.rows;
  drawn : g.D.Disk.Tells → DrawsLooks g.D.Disk.drawn l.pair l.fn.rows l.at l.fn.replicas l.replicas l.rows;
  seen : g.D.Disk.Tells → (j : ℕ) (r : Copy g.row.D.Denot) (s : Stored) → j < l.at → At l.fn.replicas j r →
      physical.Stands g.D.Disk.files r s → PlacesAre g.D.Piece.Piece.Tells l.fn.rows j s → IsSeen (place_in (row_at l.rows l.pair) j);
  told : g.D.Disk.Tells → (j : ℕ) (r : Copy g.row.D.Denot) → j < l.at → At l.fn.replicas j r →
      HasLiveNeedles (sights_of l.fn.rows) j (volume_bytes g.D.Disk.files r) → IsToldPlace (sights_of l.rows l.pair j) (volume_bytes g.D.Disk.files r);
}
