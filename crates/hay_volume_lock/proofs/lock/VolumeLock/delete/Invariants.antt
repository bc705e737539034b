use Rattle.std.proofs.Common.{◌≡◌, ◌<◌, ℕ}
use Rattle.hay_compact.specs.Finishing.{IsSeen}
use Rattle.hay_front.specs.Fronts.{Holds, IsBehind}
use Rattle.hay_map.specs.Places.{place_in}
use Rattle.hay_map.specs.Rows.{row_at}
use Rattle.hay_volume_lock.proofs.Published.{Fact}
use Rattle.hay_volume_lock.proofs.Seeing.{Sees}
use Rattle.hay_volume_lock.proofs.lock.VolumeLock.delete.Given as goal

abbrev pub invariant-loop-replica : goal.invariant-loop-replica
invariant-loop-replica g l = record {
  sees : Sees g.D.Disk.Tells g.D.Disk.files g.P.Piece.Tells g.D.Disk.fault_count g.D.Disk.fuse_count l.tag l.initial.kept l.kept;
  turn : l.seat-inside.turn ≡ l.initial.seat-inside.turn;
  view : l.seat-inside.view ≡ l.kept.front.shown;
  stood : l.seat-inside.stood ≡ l.initial.seat-inside.stood;
  fact : Holds (Fact g.D.Disk.Tells g.D.Disk.files g.P.Piece.Tells) l.kept.front.shown;
  later : IsBehind l.initial.kept.front.shown l.kept.front.shown;
  seen : (j : ℕ) → j < l.replica → IsSeen (place_in (row_at l.kept.logical.rows l.pair) j);
}
