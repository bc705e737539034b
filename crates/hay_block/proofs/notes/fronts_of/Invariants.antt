use Rattle.std.proofs.Common.{◌≡◌, ◌≤◌, take, length, vec_len, vec_capacity}
use Rattle.std.specs.List.{AllZip}
use Rattle.hay_block.proofs.notes.fronts_of.Given as goal
use Rattle.hay_shared_volume.specs.Making.{VolumeStands}

abbrev pub invariant-loop-volume : goal.invariant-loop-volume
invariant-loop-volume g l = record {
  each : AllZip (λ volume front. (known : _) → VolumeStands g.D.Disk.Tells g.D.Disk.files g.D.Piece.Piece.Tells volume known → front ≡ length known.log) (take l.volume-index l.volumes) l.fronts.items;
  count : vec_len l.fronts ≡ l.volume-index;
  room : length l.volumes ≤ vec_capacity l.fronts;
}
