use Rattle.std.proofs.Common.{◌≡◌, ◌*◌, ◌<◌, ℕ, sym, ap, subst, ◌∙◌, arith}
use Rattle.hay_disk.specs.Shelf.{HeldArm, HeldDisk}
use Rattle.hay_mount.specs.Mounts.{IsGivenDisk}
use Rattle.hay_legal.specs.Known.{disk_count}
use Rattle.hay_cluster.specs.Store.{Open}
use Rattle.hay_legal.specs.Stands.{Contents}
use Rattle.hay_cluster.proofs.Formatted.{stands_formatted}
use Rattle.hay_cluster.proofs.ClosingStore.{given_arms, given_arms_in, given_contents, given_drawn, given_faults, given_fuses, given_in, given_sure, gives_back, stands_on, volumes_long}
use Rattle.hay_cluster.proofs.cluster.Cluster.close.Goals as goal

pub give_volumes-requires : goal.give_volumes-requires
give_volumes-requires g c =
    let same : disk_count c.self.inside.settings ≡ disk_count c.args.self.settings = ap (λ (st : Open g.row.D.Denot g.row.D-Piece.Denot g.row.A.Denot). disk_count st.settings) c.self.view_is in
    let product = ap (λ m. m * c.self.inside.settings.replicas) c.self.invariant.many in
    record {
      few = let many = c.self.invariant.many in let few = c.self.invariant.built.few_volumes in omega (arith, many, few);
      most = c.self.invariant.built.few_replicas;
      all = volumes_long c.self.inside.settings 0 c.self.inside.volumes.items c.self.invariant.volumes;
      out = λ n low. c.requires.disks_out n (let below : n < disk_count c.args.self.settings = omega (arith, low, product, same) in below);
    }

pub give_disk-requires : goal.give_disk-requires
give_disk-requires g c = ap (λ (held : HeldDisk). held.is_out) c.give_volumes.ensures.below ∙ c.requires.disks_out 0 (omega arith)

pub give_seats-requires-clause-few : goal.give_seats-requires-clause-few
give_seats-requires-clause-few g c = omega (arith, c.self.invariant.lanes)

pub give_seats-requires-clause-out : goal.give_seats-requires-clause-out
give_seats-requires-clause-out g c = λ n low.
    ap (λ (held : ℕ → HeldArm). (held n).is_out) (c.give_disk.ensures.lanes ∙ c.give_volumes.ensures.lanes) ∙ c.requires.arms_out n (omega (arith, low, c.self.invariant.lanes))

pub returns-clause-stands : goal.returns-clause-stands
returns-clause-stands g c =
    let disks = g.H.Shelf.disks c.give_seats.new.shelf in
    let arms = g.H.Shelf.arms c.give_seats.new.shelf in
    let mid = g.H.Shelf.disks c.give_disk.new.self in
    let low = g.H.Shelf.disks c.give_volumes.new.shelf in
    let inside : Open g.row.D.Denot g.row.D-Piece.Denot g.row.A.Denot = record {
      settings = c.self.inside.settings;
      directory = c.self.inside.directory;
      volumes = c.self.inside.volumes.items;
      arms = c.self.inside.seats.items;
    } in
    let first : IsGivenDisk g.D.Disk.Tells g.D.Disk.files g.D.Disk.drawn g.D.Disk.fault_count g.D.Disk.fuse_count (mid 0) c.self.inside.directory.disk =
    subst (λ (d : g.row.D.Denot). IsGivenDisk g.D.Disk.Tells g.D.Disk.files g.D.Disk.drawn g.D.Disk.fault_count g.D.Disk.fuse_count (mid 0) d) c.into_disk.ensures
    (record {
      drawn_is = c.give_disk.ensures.drawn;
      files_are = c.give_disk.ensures.files;
      fault_count = c.give_disk.ensures.faults;
      fuse_count = c.give_disk.ensures.fuses;
      back = c.give_disk.ensures.back;
    }) in
    let gives =
    gives_back g.D.Disk.Tells g.D.Disk.files g.D.Disk.drawn g.D.Disk.fault_count g.D.Disk.fuse_count g.A.Arm.fault_count g.A.Arm.is_sure disks arms low mid inside c.args.self
    c.self.view_is c.self.invariant c.give_volumes.ensures.given c.give_disk.ensures.others first c.give_seats.ensures.slots c.give_seats.ensures.given in
    λ tells k holds. stands_on g.D.Disk.Tells g.D.Disk.files g.D.Disk.drawn g.D.Disk.fault_count g.D.Disk.fuse_count g.A.Arm.fault_count g.A.Arm.is_sure disks arms
    (g.H.Shelf.fault_count c.give_seats.new.shelf) tells c.args.self gives k holds

pub returns-clause-disks : goal.returns-clause-disks
returns-clause-disks g c =
    let disks = g.H.Shelf.disks c.give_seats.new.shelf in
    let arms = g.H.Shelf.arms c.give_seats.new.shelf in
    let mid = g.H.Shelf.disks c.give_disk.new.self in
    let low = g.H.Shelf.disks c.give_volumes.new.shelf in
    let inside : Open g.row.D.Denot g.row.D-Piece.Denot g.row.A.Denot = record {
      settings = c.self.inside.settings;
      directory = c.self.inside.directory;
      volumes = c.self.inside.volumes.items;
      arms = c.self.inside.seats.items;
    } in
    let first : IsGivenDisk g.D.Disk.Tells g.D.Disk.files g.D.Disk.drawn g.D.Disk.fault_count g.D.Disk.fuse_count (mid 0) c.self.inside.directory.disk =
    subst (λ (d : g.row.D.Denot). IsGivenDisk g.D.Disk.Tells g.D.Disk.files g.D.Disk.drawn g.D.Disk.fault_count g.D.Disk.fuse_count (mid 0) d) c.into_disk.ensures
    (record {
      drawn_is = c.give_disk.ensures.drawn;
      files_are = c.give_disk.ensures.files;
      fault_count = c.give_disk.ensures.faults;
      fuse_count = c.give_disk.ensures.fuses;
      back = c.give_disk.ensures.back;
    }) in
    let gives =
    gives_back g.D.Disk.Tells g.D.Disk.files g.D.Disk.drawn g.D.Disk.fault_count g.D.Disk.fuse_count g.A.Arm.fault_count g.A.Arm.is_sure disks arms low mid inside c.args.self
    c.self.view_is c.self.invariant c.give_volumes.ensures.given c.give_disk.ensures.others first c.give_seats.ensures.slots c.give_seats.ensures.given in
    gives.disks_are

pub returns-clause-fault_counts : goal.returns-clause-fault_counts
returns-clause-fault_counts g c =
    let disks = g.H.Shelf.disks c.give_seats.new.shelf in
    let arms = g.H.Shelf.arms c.give_seats.new.shelf in
    let mid = g.H.Shelf.disks c.give_disk.new.self in
    let low = g.H.Shelf.disks c.give_volumes.new.shelf in
    let inside : Open g.row.D.Denot g.row.D-Piece.Denot g.row.A.Denot = record {
      settings = c.self.inside.settings;
      directory = c.self.inside.directory;
      volumes = c.self.inside.volumes.items;
      arms = c.self.inside.seats.items;
    } in
    let first : IsGivenDisk g.D.Disk.Tells g.D.Disk.files g.D.Disk.drawn g.D.Disk.fault_count g.D.Disk.fuse_count (mid 0) c.self.inside.directory.disk =
    subst (λ (d : g.row.D.Denot). IsGivenDisk g.D.Disk.Tells g.D.Disk.files g.D.Disk.drawn g.D.Disk.fault_count g.D.Disk.fuse_count (mid 0) d) c.into_disk.ensures
    (record {
      drawn_is = c.give_disk.ensures.drawn;
      files_are = c.give_disk.ensures.files;
      fault_count = c.give_disk.ensures.faults;
      fuse_count = c.give_disk.ensures.fuses;
      back = c.give_disk.ensures.back;
    }) in
    let gives =
    gives_back g.D.Disk.Tells g.D.Disk.files g.D.Disk.drawn g.D.Disk.fault_count g.D.Disk.fuse_count g.A.Arm.fault_count g.A.Arm.is_sure disks arms low mid inside c.args.self
    c.self.view_is c.self.invariant c.give_volumes.ensures.given c.give_disk.ensures.others first c.give_seats.ensures.slots c.give_seats.ensures.given in
    given_faults g.D.Disk.Tells g.D.Disk.files g.D.Disk.drawn g.D.Disk.fault_count g.D.Disk.fuse_count g.A.Arm.fault_count g.A.Arm.is_sure disks arms c.args.self gives

pub returns-clause-fuse_counts : goal.returns-clause-fuse_counts
returns-clause-fuse_counts g c =
    let disks = g.H.Shelf.disks c.give_seats.new.shelf in
    let arms = g.H.Shelf.arms c.give_seats.new.shelf in
    let mid = g.H.Shelf.disks c.give_disk.new.self in
    let low = g.H.Shelf.disks c.give_volumes.new.shelf in
    let inside : Open g.row.D.Denot g.row.D-Piece.Denot g.row.A.Denot = record {
      settings = c.self.inside.settings;
      directory = c.self.inside.directory;
      volumes = c.self.inside.volumes.items;
      arms = c.self.inside.seats.items;
    } in
    let first : IsGivenDisk g.D.Disk.Tells g.D.Disk.files g.D.Disk.drawn g.D.Disk.fault_count g.D.Disk.fuse_count (mid 0) c.self.inside.directory.disk =
    subst (λ (d : g.row.D.Denot). IsGivenDisk g.D.Disk.Tells g.D.Disk.files g.D.Disk.drawn g.D.Disk.fault_count g.D.Disk.fuse_count (mid 0) d) c.into_disk.ensures
    (record {
      drawn_is = c.give_disk.ensures.drawn;
      files_are = c.give_disk.ensures.files;
      fault_count = c.give_disk.ensures.faults;
      fuse_count = c.give_disk.ensures.fuses;
      back = c.give_disk.ensures.back;
    }) in
    let gives =
    gives_back g.D.Disk.Tells g.D.Disk.files g.D.Disk.drawn g.D.Disk.fault_count g.D.Disk.fuse_count g.A.Arm.fault_count g.A.Arm.is_sure disks arms low mid inside c.args.self
    c.self.view_is c.self.invariant c.give_volumes.ensures.given c.give_disk.ensures.others first c.give_seats.ensures.slots c.give_seats.ensures.given in
    given_fuses g.D.Disk.Tells g.D.Disk.files g.D.Disk.drawn g.D.Disk.fault_count g.D.Disk.fuse_count g.A.Arm.fault_count g.A.Arm.is_sure disks arms c.args.self gives

pub returns-clause-arm_counts : goal.returns-clause-arm_counts
returns-clause-arm_counts g c =
    let disks = g.H.Shelf.disks c.give_seats.new.shelf in
    let arms = g.H.Shelf.arms c.give_seats.new.shelf in
    let mid = g.H.Shelf.disks c.give_disk.new.self in
    let low = g.H.Shelf.disks c.give_volumes.new.shelf in
    let inside : Open g.row.D.Denot g.row.D-Piece.Denot g.row.A.Denot = record {
      settings = c.self.inside.settings;
      directory = c.self.inside.directory;
      volumes = c.self.inside.volumes.items;
      arms = c.self.inside.seats.items;
    } in
    let first : IsGivenDisk g.D.Disk.Tells g.D.Disk.files g.D.Disk.drawn g.D.Disk.fault_count g.D.Disk.fuse_count (mid 0) c.self.inside.directory.disk =
    subst (λ (d : g.row.D.Denot). IsGivenDisk g.D.Disk.Tells g.D.Disk.files g.D.Disk.drawn g.D.Disk.fault_count g.D.Disk.fuse_count (mid 0) d) c.into_disk.ensures
    (record {
      drawn_is = c.give_disk.ensures.drawn;
      files_are = c.give_disk.ensures.files;
      fault_count = c.give_disk.ensures.faults;
      fuse_count = c.give_disk.ensures.fuses;
      back = c.give_disk.ensures.back;
    }) in
    let gives =
    gives_back g.D.Disk.Tells g.D.Disk.files g.D.Disk.drawn g.D.Disk.fault_count g.D.Disk.fuse_count g.A.Arm.fault_count g.A.Arm.is_sure disks arms low mid inside c.args.self
    c.self.view_is c.self.invariant c.give_volumes.ensures.given c.give_disk.ensures.others first c.give_seats.ensures.slots c.give_seats.ensures.given in
    given_arms g.D.Disk.Tells g.D.Disk.files g.D.Disk.drawn g.D.Disk.fault_count g.D.Disk.fuse_count g.A.Arm.fault_count g.A.Arm.is_sure disks arms c.args.self gives

pub returns-clause-sure_arms : goal.returns-clause-sure_arms
returns-clause-sure_arms g c =
    let disks = g.H.Shelf.disks c.give_seats.new.shelf in
    let arms = g.H.Shelf.arms c.give_seats.new.shelf in
    let mid = g.H.Shelf.disks c.give_disk.new.self in
    let low = g.H.Shelf.disks c.give_volumes.new.shelf in
    let inside : Open g.row.D.Denot g.row.D-Piece.Denot g.row.A.Denot = record {
      settings = c.self.inside.settings;
      directory = c.self.inside.directory;
      volumes = c.self.inside.volumes.items;
      arms = c.self.inside.seats.items;
    } in
    let first : IsGivenDisk g.D.Disk.Tells g.D.Disk.files g.D.Disk.drawn g.D.Disk.fault_count g.D.Disk.fuse_count (mid 0) c.self.inside.directory.disk =
    subst (λ (d : g.row.D.Denot). IsGivenDisk g.D.Disk.Tells g.D.Disk.files g.D.Disk.drawn g.D.Disk.fault_count g.D.Disk.fuse_count (mid 0) d) c.into_disk.ensures
    (record {
      drawn_is = c.give_disk.ensures.drawn;
      files_are = c.give_disk.ensures.files;
      fault_count = c.give_disk.ensures.faults;
      fuse_count = c.give_disk.ensures.fuses;
      back = c.give_disk.ensures.back;
    }) in
    let gives =
    gives_back g.D.Disk.Tells g.D.Disk.files g.D.Disk.drawn g.D.Disk.fault_count g.D.Disk.fuse_count g.A.Arm.fault_count g.A.Arm.is_sure disks arms low mid inside c.args.self
    c.self.view_is c.self.invariant c.give_volumes.ensures.given c.give_disk.ensures.others first c.give_seats.ensures.slots c.give_seats.ensures.given in
    given_sure g.D.Disk.Tells g.D.Disk.files g.D.Disk.drawn g.D.Disk.fault_count g.D.Disk.fuse_count g.A.Arm.fault_count g.A.Arm.is_sure disks arms c.args.self gives

pub returns-clause-contents : goal.returns-clause-contents
returns-clause-contents g c =
    let disks = g.H.Shelf.disks c.give_seats.new.shelf in
    let arms = g.H.Shelf.arms c.give_seats.new.shelf in
    let mid = g.H.Shelf.disks c.give_disk.new.self in
    let low = g.H.Shelf.disks c.give_volumes.new.shelf in
    let inside : Open g.row.D.Denot g.row.D-Piece.Denot g.row.A.Denot = record {
      settings = c.self.inside.settings;
      directory = c.self.inside.directory;
      volumes = c.self.inside.volumes.items;
      arms = c.self.inside.seats.items;
    } in
    let first : IsGivenDisk g.D.Disk.Tells g.D.Disk.files g.D.Disk.drawn g.D.Disk.fault_count g.D.Disk.fuse_count (mid 0) c.self.inside.directory.disk =
    subst (λ (d : g.row.D.Denot). IsGivenDisk g.D.Disk.Tells g.D.Disk.files g.D.Disk.drawn g.D.Disk.fault_count g.D.Disk.fuse_count (mid 0) d) c.into_disk.ensures
    (record {
      drawn_is = c.give_disk.ensures.drawn;
      files_are = c.give_disk.ensures.files;
      fault_count = c.give_disk.ensures.faults;
      fuse_count = c.give_disk.ensures.fuses;
      back = c.give_disk.ensures.back;
    }) in
    let gives =
    gives_back g.D.Disk.Tells g.D.Disk.files g.D.Disk.drawn g.D.Disk.fault_count g.D.Disk.fuse_count g.A.Arm.fault_count g.A.Arm.is_sure disks arms low mid inside c.args.self
    c.self.view_is c.self.invariant c.give_volumes.ensures.given c.give_disk.ensures.others first c.give_seats.ensures.slots c.give_seats.ensures.given in
    λ tells. given_contents g.D.Disk.Tells g.D.Disk.files g.D.Disk.drawn g.D.Disk.fault_count g.D.Disk.fuse_count g.A.Arm.fault_count g.A.Arm.is_sure disks arms tells c.args.self gives

pub returns-clause-disks_back : goal.returns-clause-disks_back
returns-clause-disks_back g c =
    let disks = g.H.Shelf.disks c.give_seats.new.shelf in
    let arms = g.H.Shelf.arms c.give_seats.new.shelf in
    let mid = g.H.Shelf.disks c.give_disk.new.self in
    let low = g.H.Shelf.disks c.give_volumes.new.shelf in
    let inside : Open g.row.D.Denot g.row.D-Piece.Denot g.row.A.Denot = record {
      settings = c.self.inside.settings;
      directory = c.self.inside.directory;
      volumes = c.self.inside.volumes.items;
      arms = c.self.inside.seats.items;
    } in
    let first : IsGivenDisk g.D.Disk.Tells g.D.Disk.files g.D.Disk.drawn g.D.Disk.fault_count g.D.Disk.fuse_count (mid 0) c.self.inside.directory.disk =
    subst (λ (d : g.row.D.Denot). IsGivenDisk g.D.Disk.Tells g.D.Disk.files g.D.Disk.drawn g.D.Disk.fault_count g.D.Disk.fuse_count (mid 0) d) c.into_disk.ensures
    (record {
      drawn_is = c.give_disk.ensures.drawn;
      files_are = c.give_disk.ensures.files;
      fault_count = c.give_disk.ensures.faults;
      fuse_count = c.give_disk.ensures.fuses;
      back = c.give_disk.ensures.back;
    }) in
    let gives =
    gives_back g.D.Disk.Tells g.D.Disk.files g.D.Disk.drawn g.D.Disk.fault_count g.D.Disk.fuse_count g.A.Arm.fault_count g.A.Arm.is_sure disks arms low mid inside c.args.self
    c.self.view_is c.self.invariant c.give_volumes.ensures.given c.give_disk.ensures.others first c.give_seats.ensures.slots c.give_seats.ensures.given in
    given_in g.D.Disk.Tells g.D.Disk.files g.D.Disk.drawn g.D.Disk.fault_count g.D.Disk.fuse_count g.A.Arm.fault_count g.A.Arm.is_sure disks arms c.args.self gives

pub returns-clause-arms_back : goal.returns-clause-arms_back
returns-clause-arms_back g c =
    let disks = g.H.Shelf.disks c.give_seats.new.shelf in
    let arms = g.H.Shelf.arms c.give_seats.new.shelf in
    let mid = g.H.Shelf.disks c.give_disk.new.self in
    let low = g.H.Shelf.disks c.give_volumes.new.shelf in
    let inside : Open g.row.D.Denot g.row.D-Piece.Denot g.row.A.Denot = record {
      settings = c.self.inside.settings;
      directory = c.self.inside.directory;
      volumes = c.self.inside.volumes.items;
      arms = c.self.inside.seats.items;
    } in
    let first : IsGivenDisk g.D.Disk.Tells g.D.Disk.files g.D.Disk.drawn g.D.Disk.fault_count g.D.Disk.fuse_count (mid 0) c.self.inside.directory.disk =
    subst (λ (d : g.row.D.Denot). IsGivenDisk g.D.Disk.Tells g.D.Disk.files g.D.Disk.drawn g.D.Disk.fault_count g.D.Disk.fuse_count (mid 0) d) c.into_disk.ensures
    (record {
      drawn_is = c.give_disk.ensures.drawn;
      files_are = c.give_disk.ensures.files;
      fault_count = c.give_disk.ensures.faults;
      fuse_count = c.give_disk.ensures.fuses;
      back = c.give_disk.ensures.back;
    }) in
    let gives =
    gives_back g.D.Disk.Tells g.D.Disk.files g.D.Disk.drawn g.D.Disk.fault_count g.D.Disk.fuse_count g.A.Arm.fault_count g.A.Arm.is_sure disks arms low mid inside c.args.self
    c.self.view_is c.self.invariant c.give_volumes.ensures.given c.give_disk.ensures.others first c.give_seats.ensures.slots c.give_seats.ensures.given in
    given_arms_in g.D.Disk.Tells g.D.Disk.files g.D.Disk.drawn g.D.Disk.fault_count g.D.Disk.fuse_count g.A.Arm.fault_count g.A.Arm.is_sure disks arms c.args.self gives

pub returns-clause-other_slots : goal.returns-clause-other_slots
returns-clause-other_slots g c = λ n high.
    let same : disk_count c.self.inside.settings ≡ disk_count c.args.self.settings = ap (λ (st : Open g.row.D.Denot g.row.D-Piece.Denot g.row.A.Denot). disk_count st.settings) c.self.view_is in
    let product = ap (λ m. m * c.self.inside.settings.replicas) c.self.invariant.many in
    ap (λ (held : ℕ → HeldDisk). held n) c.give_seats.ensures.slots
    ∙ c.give_disk.ensures.others n (λ zeroth. absurd (omega (arith, high, zeroth)))
    ∙ c.give_volumes.ensures.others n (omega (arith, high, same, product))

pub returns-clause-other_lanes : goal.returns-clause-other_lanes
returns-clause-other_lanes g c = λ n high.
    c.give_seats.ensures.others n (omega (arith, high, c.self.invariant.lanes)) ∙ ap (λ (held : ℕ → HeldArm). held n) (c.give_disk.ensures.lanes ∙ c.give_volumes.ensures.lanes)

pub returns-clause-counted : goal.returns-clause-counted
returns-clause-counted g c = c.give_seats.ensures.counted ∙ c.give_disk.ensures.counted ∙ c.give_volumes.ensures.counted

pub returns-clause-drawn : goal.returns-clause-drawn
returns-clause-drawn g c =
    let disks = g.H.Shelf.disks c.give_seats.new.shelf in
    let arms = g.H.Shelf.arms c.give_seats.new.shelf in
    let mid = g.H.Shelf.disks c.give_disk.new.self in
    let low = g.H.Shelf.disks c.give_volumes.new.shelf in
    let inside : Open g.row.D.Denot g.row.D-Piece.Denot g.row.A.Denot = record {
      settings = c.self.inside.settings;
      directory = c.self.inside.directory;
      volumes = c.self.inside.volumes.items;
      arms = c.self.inside.seats.items;
    } in
    let first : IsGivenDisk g.D.Disk.Tells g.D.Disk.files g.D.Disk.drawn g.D.Disk.fault_count g.D.Disk.fuse_count (mid 0) c.self.inside.directory.disk =
    subst (λ (d : g.row.D.Denot). IsGivenDisk g.D.Disk.Tells g.D.Disk.files g.D.Disk.drawn g.D.Disk.fault_count g.D.Disk.fuse_count (mid 0) d) c.into_disk.ensures
    (record {
      drawn_is = c.give_disk.ensures.drawn;
      files_are = c.give_disk.ensures.files;
      fault_count = c.give_disk.ensures.faults;
      fuse_count = c.give_disk.ensures.fuses;
      back = c.give_disk.ensures.back;
    }) in
    let gives =
    gives_back g.D.Disk.Tells g.D.Disk.files g.D.Disk.drawn g.D.Disk.fault_count g.D.Disk.fuse_count g.A.Arm.fault_count g.A.Arm.is_sure disks arms low mid inside c.args.self
    c.self.view_is c.self.invariant c.give_volumes.ensures.given c.give_disk.ensures.others first c.give_seats.ensures.slots c.give_seats.ensures.given in
    λ tells. given_drawn g.D.Disk.Tells g.D.Disk.files g.D.Disk.drawn g.D.Disk.fault_count g.D.Disk.fuse_count g.A.Arm.fault_count g.A.Arm.is_sure disks arms tells c.args.self gives

pub returns-clause-formatted : goal.returns-clause-formatted
returns-clause-formatted g c =
    let disks = g.H.Shelf.disks c.give_seats.new.shelf in
    let arms = g.H.Shelf.arms c.give_seats.new.shelf in
    let mid = g.H.Shelf.disks c.give_disk.new.self in
    let low = g.H.Shelf.disks c.give_volumes.new.shelf in
    let inside : Open g.row.D.Denot g.row.D-Piece.Denot g.row.A.Denot = record {
      settings = c.self.inside.settings;
      directory = c.self.inside.directory;
      volumes = c.self.inside.volumes.items;
      arms = c.self.inside.seats.items;
    } in
    let first : IsGivenDisk g.D.Disk.Tells g.D.Disk.files g.D.Disk.drawn g.D.Disk.fault_count g.D.Disk.fuse_count (mid 0) c.self.inside.directory.disk =
    subst (λ (d : g.row.D.Denot). IsGivenDisk g.D.Disk.Tells g.D.Disk.files g.D.Disk.drawn g.D.Disk.fault_count g.D.Disk.fuse_count (mid 0) d) c.into_disk.ensures
    (record {
      drawn_is = c.give_disk.ensures.drawn;
      files_are = c.give_disk.ensures.files;
      fault_count = c.give_disk.ensures.faults;
      fuse_count = c.give_disk.ensures.fuses;
      back = c.give_disk.ensures.back;
    }) in
    let gives =
    gives_back g.D.Disk.Tells g.D.Disk.files g.D.Disk.drawn g.D.Disk.fault_count g.D.Disk.fuse_count g.A.Arm.fault_count g.A.Arm.is_sure disks arms low mid inside c.args.self
    c.self.view_is c.self.invariant c.give_volumes.ensures.given c.give_disk.ensures.others first c.give_seats.ensures.slots c.give_seats.ensures.given in
    λ tells k stands slot below void.
    let read = given_contents g.D.Disk.Tells g.D.Disk.files g.D.Disk.drawn g.D.Disk.fault_count g.D.Disk.fuse_count g.A.Arm.fault_count g.A.Arm.is_sure disks arms tells c.args.self gives slot below in
    stands_formatted g.D.Disk.files (λ disk n. g.met.D.Disk.may_leave_now disk n tells) g.D.Piece.Piece.Tells g.D.Disk.fault_count g.D.Disk.fuse_count g.A.Arm.fault_count
    c.args.self k stands slot below
    (ap (λ (contents : Contents). contents 0) (sym read) ∙ void)
