use Rattle.std.proofs.Common.{map, refl, inl}
use Rattle.hay_cluster.specs.Reads.{NeverIn, counts_of}
use Rattle.hay_cluster.specs.Seen.{store_seen}
use Rattle.hay_cluster.proofs.Moves.{none_falls}
use Rattle.hay_cluster.proofs.Showing.{comes_same, shown_passes, shown_stops}
use Rattle.hay_cluster.proofs.Sure.{same_sure}
use Rattle.hay_cluster.specs.Store.{contents_in}
use Rattle.hay_cluster.specs.Passing.{IsOfPlace}
use Rattle.hay_cluster.proofs.cluster.Cluster.read_more.Goals as goal

pub read_seen-requires : goal.read_seen-requires
read_seen-requires g c =
    let seen = c.requires.needle c.in-Some.needle c.in-Some.is in
    record {
      volume = c.requires.volume;
      start = c.requires.start;
      first = c.requires.first;
      fewer = seen.0;
      needle = rw c.as_slice.ensures.value seen.1;
      empty = c.requires.empty;
      room = c.requires.room;
    }

pub returns-in-Some-clause-says : goal.returns-in-Some-clause-says
returns-in-Some-clause-says g c = λ tells k stands.
    (c.read_seen.ensures.says tells k stands, comes_same g.D.Disk.files g.D.Piece.Piece.Tells g.D.Disk.fault_count g.D.Disk.fuse_count g.A.Arm.fault_count c.args.self.now k stands)

pub returns-in-Some-clause-passes : goal.returns-in-Some-clause-passes
returns-in-Some-clause-passes g c =
    shown_passes (NeverIn g.D.Disk.Tells g.D.Disk.files g.D.Piece.Piece.Tells g.D.Disk.fault_count g.D.Disk.fuse_count g.A.Arm.fault_count g.A.Arm.is_sure c.args.self.now
    c.args.lane) (c.args.self.now).settings c.args.lane c.args.volume c.args.start
    (counts_of g.D.Disk.fault_count g.A.Arm.fault_count c.args.self.now) (counts_of g.D.Disk.fault_count g.A.Arm.fault_count c.args.self.now)
    (IsOfPlace g.D.Disk.Tells (c.args.self.now).settings (contents_in g.D.Disk.files c.args.self.now) (store_seen c.args.self.now) c.args.volume c.args.pair) c.args.passed
    c.read_seen.result c.requires.first
    (c.requires.needle c.in-Some.needle c.in-Some.is).0 c.requires.may_stand c.read_seen.ensures.next

pub returns-in-Some-clause-stops : goal.returns-in-Some-clause-stops
returns-in-Some-clause-stops g c = shown_stops c.args.self.now c.args.volume _ c.args.pair c.read_seen.result c.read_seen.ensures.next

pub returns-in-Some-clause-sure_arms : goal.returns-in-Some-clause-sure_arms
returns-in-Some-clause-sure_arms g c = same_sure g.A.Arm.is_sure g.A.Arm.fault_count (c.args.self.now).arms (c.args.self.now).arms refl

pub returns-in-Some-clause-arm_counts : goal.returns-in-Some-clause-arm_counts
returns-in-Some-clause-arm_counts g c = none_falls (map g.A.Arm.fault_count (c.args.self.now).arms)

pub returns-in-Some-clause-most : goal.returns-in-Some-clause-most
returns-in-Some-clause-most g c = inl refl
