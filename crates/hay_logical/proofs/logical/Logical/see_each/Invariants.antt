use Rattle.std.proofs.Common.{◌≡◌, ℕ, ◌<◌}
use Rattle.hay_map.specs.Places.{place_in}
use Rattle.hay_map.specs.Rows.{row_at}
use Rattle.hay_compact.specs.Finishing.{IsSeen}
use Rattle.hay_legal.specs.declared.known.VolumeKnown.{VolumeKnown}
use Rattle.hay_logical.specs.Needles.{AreToldBy}
use Rattle.hay_logical.specs.Seen.{volume_seen}
use Rattle.hay_logical.specs.Sights.{LooksAtPair, sights_of}
use Rattle.hay_logical.specs.Stands.{IsTightAt, Stands}
use Rattle.hay_logical.specs.ReplicaCalls.{KeepsStuck}
use Rattle.hay_logical.proofs.Through.{Kept}
use Rattle.hay_logical.proofs.logical.Logical.see_each.Given as goal

abbrev pub invariant-loop-replica : goal.invariant-loop-replica
invariant-loop-replica g l = record {
  kept : Kept g.D.Disk.Tells g.D.Disk.files g.D.Piece.Piece.Tells g.D.Disk.fault_count g.D.Disk.fuse_count l.fn.self l.self;
  tight : g.D.Disk.Tells → (k : VolumeKnown) → Stands g.D.Disk.files g.D.Piece.Piece.Tells l.fn.self k → (j : ℕ) → IsTightAt g.D.Disk.files l.fn.self j → IsTightAt g.D.Disk.files l.self j;
  stuck : KeepsStuck l.fn.self.replicas l.self.replicas;
  seen : (j : ℕ) → j < l.replica → IsSeen (place_in (row_at l.self.rows l.pair) j);
  looks : LooksAtPair l.pair (sights_of l.fn.self.rows) (sights_of l.self.rows);
  told : g.D.Disk.Tells → AreToldBy g.D.Disk.files l.fn.self.replicas l.pair (sights_of l.fn.self.rows) (sights_of l.self.rows);
  unchanged : volume_seen l.self ≡ volume_seen l.fn.self;
}
