use Rattle.std.proofs.Common.{◌≡◌}
use Rattle.hay_meeting.specs.Acts.{Start}
use Rattle.hay_lane.specs.Fuses.{IsUnfused}
use Rattle.hay_lane.specs.Lanes.{IsOf, IsSeated}
use Rattle.hay_shared_volume.specs.Seats.{IsSeatOf, WasAt, sight_of}
use Rattle.hay_lane.proofs.compact.Shared+SharedVolume+D+P+L.compact_replica.Given as goal

-- where the disks tell, none was lost yet
abbrev pub invariant-loop : goal.invariant-loop
invariant-loop g l = record {
  seated : IsSeated IsSeatOf g.L.DirectoryCalls.fits l.self l.tag.lane l.lane;
  same : (start : Start) → IsOf (WasAt g.D.Disk.Tells g.D.Disk.files g.P.Piece.Tells g.D.Disk.fault_count g.D.Disk.fuse_count) g.L.DirectoryCalls.is_at l.self.settings start
      l.fn.lane → IsOf (WasAt g.D.Disk.Tells g.D.Disk.files g.P.Piece.Tells g.D.Disk.fault_count g.D.Disk.fuse_count) g.L.DirectoryCalls.is_at l.self.settings start l.lane;
  unfused : IsUnfused sight_of g.L.DirectoryCalls.sight l.fn.lane → IsUnfused sight_of g.L.DirectoryCalls.sight l.lane;
  arm : l.lane.arm ≡ l.fn.lane.arm;
  first : (start : Start) → IsOf (WasAt g.D.Disk.Tells g.D.Disk.files g.P.Piece.Tells g.D.Disk.fault_count g.D.Disk.fuse_count) g.L.DirectoryCalls.is_at l.self.settings start
      l.fn.lane → l.lane ≡ l.fn.lane;
}
