use Rattle.std.proofs.Common.{◌≡◌, ℕ, None}
use Rattle.std.specs.List.{AllByRecursion, AllZip}
use Rattle.hay_reply.specs.Fits.{FitsRefused}
use Rattle.hay_legal.specs.Suiting.{Refuses}
use Rattle.hay_meeting.specs.Acts.{Start}
use Rattle.hay_meeting.specs.Sights.{Sight}
use Rattle.hay_holdings.specs.Lines.{Sees, Tried}
use Rattle.hay_lane.specs.Fuses.{IsUnfused}
use Rattle.hay_lane.specs.Lanes.{IsOf, IsSeated, sight}
use Rattle.hay_lane.proofs.Putting.{first_tries}
use Rattle.hay_lane.proofs.put.Shared+SharedVolume+D+P+L.find_taker.Given as goal
use Rattle.hay_shared_volume.specs.Seats.{IsSeatOf, WasAt, sight_of}

abbrev pub invariant-loop-turn : goal.invariant-loop-turn
invariant-loop-turn g l = record {
  fits : AllByRecursion FitsRefused l.refused;
  refuse : AllZip (Refuses l.fn.self.settings l.size) (first_tries l.fn.self.settings l.pair l.turn) l.refused;
  seated : IsSeated IsSeatOf g.L.DirectoryCalls.fits l.fn.self l.fn.tag.lane l.lane;
  same : (start : Start) → IsOf (WasAt g.D.Disk.Tells g.D.Disk.files g.P.Piece.Tells g.D.Disk.fault_count g.D.Disk.fuse_count) g.L.DirectoryCalls.is_at l.fn.self.settings start
      l.fn.lane → IsOf (WasAt g.D.Disk.Tells g.D.Disk.files g.P.Piece.Tells g.D.Disk.fault_count g.D.Disk.fuse_count) g.L.DirectoryCalls.is_at l.fn.self.settings start l.lane;
  unfused : IsUnfused sight_of g.L.DirectoryCalls.sight l.fn.lane → IsUnfused sight_of g.L.DirectoryCalls.sight l.lane;
  arm : l.lane.arm ≡ l.fn.lane.arm;
  tried : (start : Start) (d : ℕ) (a : Sight) → IsOf (WasAt g.D.Disk.Tells g.D.Disk.files g.P.Piece.Tells g.D.Disk.fault_count g.D.Disk.fuse_count) g.L.DirectoryCalls.is_at
      l.fn.self.settings start l.fn.lane
      → Sees l.fn.self.settings start l.fn.self.drained.items l.fn.tag l.pair d None a (sight sight_of g.L.DirectoryCalls.sight g.A.Arm.fault_count l.fn.lane)
      → Tried l.fn.self.settings start l.fn.self.drained.items l.fn.tag l.pair l.size (first_tries l.fn.self.settings l.pair l.turn) l.refused a
      (sight sight_of g.L.DirectoryCalls.sight g.A.Arm.fault_count l.lane);
}
