use Rattle.std.proofs.Common.{◌≡◌, ◌≤◌, ℕ, List, [], length, map}
use Rattle.std.specs.Vec.{vec_capacity}
use Rattle.hay_needle.specs.declared.total.TheConstants.{MAX_PHOTO}
use Rattle.hay_legal.specs.declared.known.Known.{Known}
use Rattle.hay_legal.specs.Known.{NoneFalls, volume_at}
use Rattle.hay_reader.specs.Shown.{HasBytes}
use Rattle.hay_reader.specs.declared.causes.PassedReplica.{PassedReplica}
use Rattle.hay_reader.specs.declared.seat.ReadReply.TheVariants as read
use Rattle.hay_cluster.specs.Causes.{StaySure}
use Rattle.hay_cluster.specs.Reads.{NeverIn, ReadPasses, ReadSays, ReadSees, StopsUnseen, counts_of, outcomes_of}
use Rattle.hay_cluster.specs.Leaving.{AnySlot, KeepsIn}
use Rattle.hay_cluster.specs.Parts.{Comes}
use Rattle.hay_logical.specs.Sights.{LooksAtPair}
use Rattle.hay_cluster.specs.Seen.{Keeps, store_seen}
use Rattle.hay_cluster.specs.Sights.{ChangesPhotos}
use Rattle.hay_cluster.specs.State.{Stands}
use Rattle.hay_cluster.specs.Store.{IsUp, contents_in, disks_of}
use Rattle.hay_cluster.specs.Passing.{IsOfPlace}
use Rattle.hay_cluster.specs.Needles.{AreToldAs}
use Rattle.hay_cluster.proofs.cluster.Cluster.fetch.Given as goal

abbrev pub invariant-loop : goal.invariant-loop
invariant-loop g l = record {
  says : g.D.Disk.Tells → (k : Known) → Stands g.D.Disk.files g.D.Piece.Piece.Tells g.D.Disk.fault_count g.D.Disk.fuse_count g.A.Arm.fault_count l.fn.self k →
      ReadSays l.cookie (outcomes_of l.fn.self.settings (volume_at k l.volume) l.pair) l.photo.items l.read
      × Comes g.D.Disk.files g.D.Piece.Piece.Tells g.D.Disk.fault_count g.D.Disk.fuse_count g.A.Arm.fault_count k k l.self;
  passes : ReadPasses (NeverIn g.D.Disk.Tells g.D.Disk.files g.D.Piece.Piece.Tells g.D.Disk.fault_count g.D.Disk.fuse_count g.A.Arm.fault_count g.A.Arm.is_sure l.fn.self l.lane)
      l.fn.self.settings l.lane l.volume l.start
      (counts_of g.D.Disk.fault_count g.A.Arm.fault_count l.fn.self) (counts_of g.D.Disk.fault_count g.A.Arm.fault_count l.self)
      (IsOfPlace g.D.Disk.Tells l.fn.self.settings (contents_in g.D.Disk.files l.self) (store_seen l.self) l.volume l.pair) [] l.read;
  stops : StopsUnseen l.self l.volume l.pair l.read;
  tries : (j : ℕ) (causes : List PassedReplica) → l.read ≡ read.Unseen j causes → l.counter ≤ length causes;
  bytes : HasBytes l.photo.items l.read;
  room : MAX_PHOTO ≤ vec_capacity l.photo;
  sure_arms : StaySure g.A.Arm.is_sure g.A.Arm.fault_count l.fn.self.arms l.self.arms;
  counts : NoneFalls (map g.D.Disk.fault_count (disks_of l.fn.self)) (map g.D.Disk.fault_count (disks_of l.self));
  fuses : map g.D.Disk.fuse_count (disks_of l.self) ≡ map g.D.Disk.fuse_count (disks_of l.fn.self);
  contents : g.D.Disk.Tells → KeepsIn l.fn.self.settings AnySlot (contents_in g.D.Disk.files l.fn.self) (contents_in g.D.Disk.files l.self);
  seen : Keeps (store_seen l.fn.self) (store_seen l.self);
  looks : ChangesPhotos l.volume (LooksAtPair l.pair) (store_seen l.fn.self) (store_seen l.self);
  told : g.D.Disk.Tells → AreToldAs l.fn.self.settings (contents_in g.D.Disk.files l.fn.self) (store_seen l.fn.self) l.volume l.pair ((store_seen l.self).places l.volume);
  sees : ReadSees ((store_seen l.self).places l.volume l.pair) l.read;
  arm_counts : NoneFalls (map g.A.Arm.fault_count l.fn.self.arms) (map g.A.Arm.fault_count l.self.arms);
  settings : l.self.settings ≡ l.fn.self.settings;
  up : IsUp l.self;
}
