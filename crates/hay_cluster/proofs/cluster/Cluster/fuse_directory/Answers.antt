use Rattle.std.proofs.Common.{◌≤◌, map, ap, subst, arith}
use Rattle.std.specs.List.{flat_map}
use Rattle.hay_legal.specs.Known.{NoneFalls}
use Rattle.hay_cluster.specs.Store.{Open, disks_of, volume_disks}
use Rattle.hay_directory.specs.State.{State}
use Rattle.hay_cluster.proofs.Moves.{directory_fused, directory_sets, none_falls}
use Rattle.hay_cluster.proofs.Leaving.{directory_contents}
use Rattle.hay_directory.specs.Seen.{KeepsSeen}
use Rattle.hay_cluster.proofs.Seeing.{directory_moves}
use Rattle.hay_cluster.proofs.Sighting.{directory_photos}
use Rattle.hay_cluster.proofs.cluster.Cluster.fuse_directory.Goals as goal

pub returns-clause-fused : goal.returns-clause-fused
returns-clause-fused g c = λ tells k stands.
    let store : Open g.row.D.Denot g.row.D-Piece.Denot g.row.A.Denot = record {
      settings = c.self.inside.settings;
      directory = c.self.inside.directory;
      volumes = c.self.inside.volumes.items;
      arms = c.self.inside.seats.items;
    } in
    directory_fused g.D.Disk.files g.D.Piece.Piece.Tells g.D.Disk.fault_count g.D.Disk.fuse_count g.A.Arm.fault_count c.args.self.now store k c.fuse.new.self c.self.view_is stands
    (ap (λ (d : State g.row.D.Denot). d.settings) c.fuse.ensures.only) c.fuse.ensures.faults c.fuse.ensures.fuses
    (λ stood. c.fuse.ensures.stands tells k.directory k.drained stood)

pub returns-clause-counts : goal.returns-clause-counts
returns-clause-counts g c =
    let store : Open g.row.D.Denot g.row.D-Piece.Denot g.row.A.Denot = record {
      settings = c.self.inside.settings;
      directory = c.self.inside.directory;
      volumes = c.self.inside.volumes.items;
      arms = c.self.inside.seats.items;
    } in
    let same = c.fuse.ensures.faults in
    let later : g.D.Disk.fault_count c.self.inside.directory.disk ≤ g.D.Disk.fault_count c.fuse.new.self.disk = omega (arith, same) in
    subst (λ (st : Open g.row.D.Denot g.row.D-Piece.Denot g.row.A.Denot). NoneFalls (map g.D.Disk.fault_count (disks_of st))
    (map g.D.Disk.fault_count (disks_of (let next : Open g.row.D.Denot g.row.D-Piece.Denot g.row.A.Denot = record store { directory = c.fuse.new.self } in next)))) c.self.view_is
    (later, none_falls (map g.D.Disk.fault_count (flat_map volume_disks store.volumes)))

pub returns-clause-fuses : goal.returns-clause-fuses
returns-clause-fuses g c =
    let store : Open g.row.D.Denot g.row.D-Piece.Denot g.row.A.Denot = record {
      settings = c.self.inside.settings;
      directory = c.self.inside.directory;
      volumes = c.self.inside.volumes.items;
      arms = c.self.inside.seats.items;
    } in
    directory_sets g.D.Disk.fuse_count c.args.self.now store c.fuse.new.self c.self.view_is c.fuse.ensures.fuses

pub returns-clause-contents : goal.returns-clause-contents
returns-clause-contents g c = λ tells.
    let store : Open g.row.D.Denot g.row.D-Piece.Denot g.row.A.Denot = record {
      settings = c.self.inside.settings;
      directory = c.self.inside.directory;
      volumes = c.self.inside.volumes.items;
      arms = c.self.inside.seats.items;
    } in
    directory_contents g.D.Disk.files (c.args.self.now).settings c.args.self.now store c.fuse.new.self c.self.view_is (c.fuse.ensures.same tells)

pub returns-clause-seen : goal.returns-clause-seen
returns-clause-seen g c =
    let store : Open g.row.D.Denot g.row.D-Piece.Denot g.row.A.Denot = record {
      settings = c.self.inside.settings;
      directory = c.self.inside.directory;
      volumes = c.self.inside.volumes.items;
      arms = c.self.inside.seats.items;
    } in
    directory_moves c.args.self.now store c.self.view_is c.fuse.new.self KeepsSeen c.fuse.ensures.seen

pub returns-clause-sights : goal.returns-clause-sights
returns-clause-sights g c =
    let store : Open g.row.D.Denot g.row.D-Piece.Denot g.row.A.Denot = record {
      settings = c.self.inside.settings;
      directory = c.self.inside.directory;
      volumes = c.self.inside.volumes.items;
      arms = c.self.inside.seats.items;
    } in
    directory_photos c.args.self.now store c.self.view_is c.fuse.new.self
