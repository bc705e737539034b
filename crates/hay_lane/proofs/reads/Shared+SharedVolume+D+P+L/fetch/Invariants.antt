use Rattle.std.proofs.Common.{◌≡◌, ◌≤◌, ℕ, length, Some}
use Rattle.std.specs.Vec.{vec_capacity}
use Rattle.hay_needle.specs.declared.total.TheConstants.{MAX_PHOTO}
use Rattle.hay_meeting.specs.Acts.{Start}
use Rattle.hay_meeting.specs.Sights.{Sight}
use Rattle.hay_holdings.specs.Lines.{Sees}
use Rattle.hay_reader.specs.Shown.{HasBytes}
use Rattle.hay_lane.specs.Blames.{Blames}
use Rattle.hay_lane.specs.Fuses.{IsUnfused}
use Rattle.hay_lane.specs.Lanes.{IsLaterArm, IsOf, IsSeated, sight}
use Rattle.hay_lane.specs.Reads.{HasRead, ShownWithin, StopsBehind, causes_read}
use Rattle.hay_lane.proofs.reads.Shared+SharedVolume+D+P+L.fetch.Given as goal
use Rattle.hay_shared_volume.specs.Seats.{IsSeatOf, WasAt, sight_of}

abbrev pub invariant-loop : goal.invariant-loop
invariant-loop g l = record {
  seated : IsSeated IsSeatOf g.L.DirectoryCalls.fits l.self l.tag.lane l.lane;
  same : (start : Start) → IsOf (WasAt g.D.Disk.Tells g.D.Disk.files g.P.Piece.Tells g.D.Disk.fault_count g.D.Disk.fuse_count) g.L.DirectoryCalls.is_at l.self.settings start
      l.fn.lane → IsOf (WasAt g.D.Disk.Tells g.D.Disk.files g.P.Piece.Tells g.D.Disk.fault_count g.D.Disk.fuse_count) g.L.DirectoryCalls.is_at l.self.settings start l.lane;
  unfused : IsUnfused sight_of g.L.DirectoryCalls.sight l.fn.lane → IsUnfused sight_of g.L.DirectoryCalls.sight l.lane;
  arm : IsLaterArm g.A.Arm.is_sure g.A.Arm.fault_count l.fn.lane.arm l.lane.arm;
  long : length l.looked.row ≡ l.self.settings.replicas;
  stops : StopsBehind l.first l.self.settings.replicas l.counter l.read;
  shown : ShownWithin l.first l.self.settings.replicas l.read;
  blames : Blames g.A.Arm.is_sure g.A.Arm.fault_count l.fn.lane.arm l.lane.arm (causes_read l.read);
  bytes : HasBytes l.photo.items l.read;
  room : MAX_PHOTO ≤ vec_capacity l.photo;
  tells : (start : Start) (d : ℕ) (a : Sight) → IsOf (WasAt g.D.Disk.Tells g.D.Disk.files g.P.Piece.Tells g.D.Disk.fault_count g.D.Disk.fuse_count) g.L.DirectoryCalls.is_at
      l.self.settings start l.fn.lane →
      Sees l.self.settings start l.self.drained.items l.tag l.pair d (Some l.volume) a (sight sight_of g.L.DirectoryCalls.sight g.A.Arm.fault_count l.fn.lane) →
      HasRead l.self.settings start l.self.drained.items l.tag l.pair d l.volume l.first g.P.Piece.Tells l.cookie l.looked l.photo.items l.read
      a (sight sight_of g.L.DirectoryCalls.sight g.A.Arm.fault_count l.lane);
}
