use Rattle.std.proofs.Common.{◌≡◌, ◌≤◌, map, true, false, sym, ap, subst, arith}
use Rattle.std.specs.List.{flat_map}
use Rattle.hay_legal.specs.Known.{NoneFalls}
use Rattle.hay_cluster.specs.Store.{Open, disks_of, volume_disks}
use Rattle.hay_directory.specs.State.{State}
use Rattle.std.specs.Prelude.{slice_set}
use Rattle.hay_legal.specs.Plain.{with_drain}
use Rattle.hay_cluster.specs.Parts.{Comes}
use Rattle.hay_cluster.proofs.Moves.{directory_fuses, in_directory, none_falls}
use Rattle.hay_cluster.proofs.Leaving.{directory_same}
use Rattle.hay_directory.specs.Seen.{DrainSeen, directory_seen}
use Rattle.hay_cluster.proofs.Seeing.{directory_moves}
use Rattle.hay_cluster.proofs.Sighting.{directory_photos}
use Rattle.hay_cluster.proofs.cluster.Cluster.set_drained.Goals as goal

pub returns-then-is_drained-clause-set : goal.returns-then-is_drained-clause-set
returns-then-is_drained-clause-set g c = λ tells k stands.
    let store : Open g.row.D.Denot g.row.D-Piece.Denot g.row.A.Denot = record {
      settings = c.self.inside.settings;
      directory = c.self.inside.directory;
      volumes = c.self.inside.volumes.items;
      arms = c.self.inside.seats.items;
    } in
    let disk : c.drain.new.self.disk ≡ (store.directory).disk = ap (λ (d : State g.row.D.Denot). d.disk) c.drain.ensures.only in
    let same = ap g.D.Disk.fault_count disk in
    let given : c.args.is_drained ≡ true = c.if-is_drained.true in
    subst (λ b. Comes g.D.Disk.files g.D.Piece.Piece.Tells g.D.Disk.fault_count g.D.Disk.fuse_count g.A.Arm.fault_count k (with_drain k c.args.machine b)
    (let next : Open g.row.D.Denot g.row.D-Piece.Denot g.row.A.Denot = record store { directory = c.drain.new.self } in next)) (sym given)
    (in_directory g.D.Disk.files g.D.Piece.Piece.Tells g.D.Disk.fault_count g.D.Disk.fuse_count g.A.Arm.fault_count c.args.self.now store k c.drain.new.self k.directory
    (slice_set k.drained c.args.machine true) c.self.view_is stands (ap (λ (d : State g.row.D.Denot). d.settings) c.drain.ensures.only) (omega (arith, same)) (ap g.D.Disk.fuse_count disk)
    (λ stood. c.drain.ensures.stands k.directory k.drained stood))

pub returns-then-is_drained-clause-counts : goal.returns-then-is_drained-clause-counts
returns-then-is_drained-clause-counts g c =
    let store : Open g.row.D.Denot g.row.D-Piece.Denot g.row.A.Denot = record {
      settings = c.self.inside.settings;
      directory = c.self.inside.directory;
      volumes = c.self.inside.volumes.items;
      arms = c.self.inside.seats.items;
    } in
    let same = ap (λ (d : State g.row.D.Denot). g.D.Disk.fault_count d.disk) c.drain.ensures.only in
    let later : g.D.Disk.fault_count c.self.inside.directory.disk ≤ g.D.Disk.fault_count c.drain.new.self.disk = omega (arith, same) in
    subst (λ (st : Open g.row.D.Denot g.row.D-Piece.Denot g.row.A.Denot). NoneFalls (map g.D.Disk.fault_count (disks_of st))
    (map g.D.Disk.fault_count (disks_of (let next : Open g.row.D.Denot g.row.D-Piece.Denot g.row.A.Denot = record store { directory = c.drain.new.self } in next)))) c.self.view_is
    (later, none_falls (map g.D.Disk.fault_count (flat_map volume_disks store.volumes)))

pub returns-else-is_drained-clause-set : goal.returns-else-is_drained-clause-set
returns-else-is_drained-clause-set g c = λ tells k stands.
    let store : Open g.row.D.Denot g.row.D-Piece.Denot g.row.A.Denot = record {
      settings = c.self.inside.settings;
      directory = c.self.inside.directory;
      volumes = c.self.inside.volumes.items;
      arms = c.self.inside.seats.items;
    } in
    let disk : c.undrain.new.self.disk ≡ (store.directory).disk = ap (λ (d : State g.row.D.Denot). d.disk) c.undrain.ensures.only in
    let same = ap g.D.Disk.fault_count disk in
    let given : c.args.is_drained ≡ false = c.if-is_drained.false in
    subst (λ b. Comes g.D.Disk.files g.D.Piece.Piece.Tells g.D.Disk.fault_count g.D.Disk.fuse_count g.A.Arm.fault_count k (with_drain k c.args.machine b)
    (let next : Open g.row.D.Denot g.row.D-Piece.Denot g.row.A.Denot = record store { directory = c.undrain.new.self } in next)) (sym given)
    (in_directory g.D.Disk.files g.D.Piece.Piece.Tells g.D.Disk.fault_count g.D.Disk.fuse_count g.A.Arm.fault_count c.args.self.now store k c.undrain.new.self k.directory
    (slice_set k.drained c.args.machine false) c.self.view_is stands (ap (λ (d : State g.row.D.Denot). d.settings) c.undrain.ensures.only) (omega (arith, same)) (ap g.D.Disk.fuse_count disk)
    (λ stood. c.undrain.ensures.stands k.directory k.drained stood))

pub returns-else-is_drained-clause-counts : goal.returns-else-is_drained-clause-counts
returns-else-is_drained-clause-counts g c =
    let store : Open g.row.D.Denot g.row.D-Piece.Denot g.row.A.Denot = record {
      settings = c.self.inside.settings;
      directory = c.self.inside.directory;
      volumes = c.self.inside.volumes.items;
      arms = c.self.inside.seats.items;
    } in
    let same = ap (λ (d : State g.row.D.Denot). g.D.Disk.fault_count d.disk) c.undrain.ensures.only in
    let later : g.D.Disk.fault_count c.self.inside.directory.disk ≤ g.D.Disk.fault_count c.undrain.new.self.disk = omega (arith, same) in
    subst (λ (st : Open g.row.D.Denot g.row.D-Piece.Denot g.row.A.Denot). NoneFalls (map g.D.Disk.fault_count (disks_of st))
    (map g.D.Disk.fault_count (disks_of (let next : Open g.row.D.Denot g.row.D-Piece.Denot g.row.A.Denot = record store { directory = c.undrain.new.self } in next)))) c.self.view_is
    (later, none_falls (map g.D.Disk.fault_count (flat_map volume_disks store.volumes)))

pub returns-then-is_drained-clause-fuses : goal.returns-then-is_drained-clause-fuses
returns-then-is_drained-clause-fuses g c =
    let store : Open g.row.D.Denot g.row.D-Piece.Denot g.row.A.Denot = record {
      settings = c.self.inside.settings;
      directory = c.self.inside.directory;
      volumes = c.self.inside.volumes.items;
      arms = c.self.inside.seats.items;
    } in
    directory_fuses g.D.Disk.fuse_count c.args.self.now store c.drain.new.self c.self.view_is (ap (λ (d : State g.row.D.Denot). g.D.Disk.fuse_count d.disk) c.drain.ensures.only)

pub returns-else-is_drained-clause-fuses : goal.returns-else-is_drained-clause-fuses
returns-else-is_drained-clause-fuses g c =
    let store : Open g.row.D.Denot g.row.D-Piece.Denot g.row.A.Denot = record {
      settings = c.self.inside.settings;
      directory = c.self.inside.directory;
      volumes = c.self.inside.volumes.items;
      arms = c.self.inside.seats.items;
    } in
    directory_fuses g.D.Disk.fuse_count c.args.self.now store c.undrain.new.self c.self.view_is (ap (λ (d : State g.row.D.Denot). g.D.Disk.fuse_count d.disk) c.undrain.ensures.only)

pub returns-then-is_drained-clause-disks : goal.returns-then-is_drained-clause-disks
returns-then-is_drained-clause-disks g c =
    let store : Open g.row.D.Denot g.row.D-Piece.Denot g.row.A.Denot = record {
      settings = c.self.inside.settings;
      directory = c.self.inside.directory;
      volumes = c.self.inside.volumes.items;
      arms = c.self.inside.seats.items;
    } in
    directory_same c.args.self.now store c.drain.new.self c.self.view_is (ap (λ (d : State g.row.D.Denot). d.disk) c.drain.ensures.only)

pub returns-else-is_drained-clause-disks : goal.returns-else-is_drained-clause-disks
returns-else-is_drained-clause-disks g c =
    let store : Open g.row.D.Denot g.row.D-Piece.Denot g.row.A.Denot = record {
      settings = c.self.inside.settings;
      directory = c.self.inside.directory;
      volumes = c.self.inside.volumes.items;
      arms = c.self.inside.seats.items;
    } in
    directory_same c.args.self.now store c.undrain.new.self c.self.view_is (ap (λ (d : State g.row.D.Denot). d.disk) c.undrain.ensures.only)

pub returns-then-is_drained-clause-seen : goal.returns-then-is_drained-clause-seen
returns-then-is_drained-clause-seen g c =
    let store : Open g.row.D.Denot g.row.D-Piece.Denot g.row.A.Denot = record {
      settings = c.self.inside.settings;
      directory = c.self.inside.directory;
      volumes = c.self.inside.volumes.items;
      arms = c.self.inside.seats.items;
    } in
    directory_moves c.args.self.now store c.self.view_is c.drain.new.self (DrainSeen c.args.machine c.args.is_drained)
    (subst (λ b. DrainSeen c.args.machine b (directory_seen store.directory) (directory_seen c.drain.new.self)) (sym c.if-is_drained.true) c.drain.ensures.seen)

pub returns-else-is_drained-clause-seen : goal.returns-else-is_drained-clause-seen
returns-else-is_drained-clause-seen g c =
    let store : Open g.row.D.Denot g.row.D-Piece.Denot g.row.A.Denot = record {
      settings = c.self.inside.settings;
      directory = c.self.inside.directory;
      volumes = c.self.inside.volumes.items;
      arms = c.self.inside.seats.items;
    } in
    directory_moves c.args.self.now store c.self.view_is c.undrain.new.self (DrainSeen c.args.machine c.args.is_drained)
    (subst (λ b. DrainSeen c.args.machine b (directory_seen store.directory) (directory_seen c.undrain.new.self)) (sym c.if-is_drained.false) c.undrain.ensures.seen)

pub returns-then-is_drained-clause-sights : goal.returns-then-is_drained-clause-sights
returns-then-is_drained-clause-sights g c =
    let store : Open g.row.D.Denot g.row.D-Piece.Denot g.row.A.Denot = record {
      settings = c.self.inside.settings;
      directory = c.self.inside.directory;
      volumes = c.self.inside.volumes.items;
      arms = c.self.inside.seats.items;
    } in
    directory_photos c.args.self.now store c.self.view_is c.drain.new.self

pub returns-else-is_drained-clause-sights : goal.returns-else-is_drained-clause-sights
returns-else-is_drained-clause-sights g c =
    let store : Open g.row.D.Denot g.row.D-Piece.Denot g.row.A.Denot = record {
      settings = c.self.inside.settings;
      directory = c.self.inside.directory;
      volumes = c.self.inside.volumes.items;
      arms = c.self.inside.seats.items;
    } in
    directory_photos c.args.self.now store c.self.view_is c.undrain.new.self
