use Rattle.std.proofs.Common.{◌≡◌, ◌++◌, ◌∷◌, [], None, Bool, List, map, sym, ap, subst, ◌∙◌, inl, inr, ◌≤◌, ◌^◌, arith}
use Rattle.std.proofs.lemmas.Result.{IfErr-weaker, on_ok_weaker}
use Rattle.std.proofs.lemmas.Bool.{cases_Bool}
use Rattle.std.specs.List.{flat_map}
use Rattle.hay_legal.specs.declared.known.DirKnown.{DirKnown}
use Rattle.hay_legal.specs.Known.{NoneFalls}
use Rattle.hay_cluster.specs.Store.{Open, disks_of, volume_disks}
use Rattle.hay_legal.specs.Known.{home_in, settled, settled_by}
use Rattle.hay_disk.specs.Disk.{Files}
use Rattle.hay_legal.specs.declared.known.HomeRow.{HomeRow}
use Rattle.hay_directory.specs.State.{State, Stands as DirectoryStands, home_of, is_frozen}
use Rattle.hay_directory.proofs.Standing.{stands_frozen, stands_home}
use Rattle.hay_cluster.specs.Causes.{RoseIn}
use Rattle.hay_cluster.specs.State.{Stands}
use Rattle.hay_cluster.proofs.Moves.{directory_fuses, directory_stood, in_directory, none_falls}
use Rattle.hay_cluster.proofs.Leaving.{directory_leaves, directory_same, directory_adds}
use Rattle.hay_needle.specs.declared.settings.Settings.{Settings}
use Rattle.hay_cluster.proofs.Settling.{AddsOne, row_adds}
use Rattle.hay_directory.specs.Seen.{SettleRefusedSeen, SettleSeen}
use Rattle.hay_cluster.proofs.Seeing.{directory_moves}
use Rattle.hay_cluster.proofs.cluster.Cluster.settle.Goals as goal

pub returns-clause-no_memory : goal.returns-clause-no_memory
returns-clause-no_memory g c = λ tells k stands is.
    let store : Open g.row.D.Denot g.row.D-Piece.Denot g.row.A.Denot = record {
      settings = c.self.inside.settings;
      directory = c.self.inside.directory;
      volumes = c.self.inside.volumes.items;
      arms = c.self.inside.seats.items;
    } in
    in_directory g.D.Disk.files g.D.Piece.Piece.Tells g.D.Disk.fault_count g.D.Disk.fuse_count g.A.Arm.fault_count c.args.self.now store k c.settle.new.self k.directory k.drained
    c.self.view_is stands c.settle.ensures.settings c.settle.ensures.later c.settle.ensures.fuses
    (λ stood. c.settle.ensures.no_memory tells k.directory k.drained stood is)

pub returns-clause-pending : goal.returns-clause-pending
returns-clause-pending g c = λ tells k faults stands is.
    let store : Open g.row.D.Denot g.row.D-Piece.Denot g.row.A.Denot = record {
      settings = c.self.inside.settings;
      directory = c.self.inside.directory;
      volumes = c.self.inside.volumes.items;
      arms = c.self.inside.seats.items;
    } in
    in_directory g.D.Disk.files g.D.Piece.Piece.Tells g.D.Disk.fault_count g.D.Disk.fuse_count g.A.Arm.fault_count c.args.self.now store k c.settle.new.self _ k.drained
    c.self.view_is stands c.settle.ensures.settings c.settle.ensures.later c.settle.ensures.fuses
    (λ stood. c.settle.ensures.pending tells k.directory k.drained faults stood is)

frozen_known : {D : Type 0} (files : D → Files) (d : State D) (known : DirKnown) (drained : List Bool) → DirectoryStands files d known drained → is_frozen d.mode ≡ known.frozen
unfolding DirectoryStands
frozen_known files d known drained s = stands_frozen files d known drained s

pub returns-clause-thawed : goal.returns-clause-thawed
returns-clause-thawed g c = λ tells k stands not.
    let store : Open g.row.D.Denot g.row.D-Piece.Denot g.row.A.Denot = record {
      settings = c.self.inside.settings;
      directory = c.self.inside.directory;
      volumes = c.self.inside.volumes.items;
      arms = c.self.inside.seats.items;
    } in
    let here =
    subst (λ (st : Open g.row.D.Denot g.row.D-Piece.Denot g.row.A.Denot). Stands g.D.Disk.files g.D.Piece.Piece.Tells g.D.Disk.fault_count g.D.Disk.fuse_count
    g.A.Arm.fault_count st k) (sym c.self.view_is) stands in
    let is =
    frozen_known g.D.Disk.files store.directory k.directory k.drained (directory_stood g.D.Disk.files g.D.Piece.Piece.Tells g.D.Disk.fault_count g.D.Disk.fuse_count
    g.A.Arm.fault_count store k here) in
    elim (cases_Bool (is_frozen (store.directory).mode)) [
      | inl is_so ↦ absurd (not (c.settle.ensures.frozen is_so))
      | inr is_not ↦ sym is ∙ is_not
    ]

pub returns-clause-frozen : goal.returns-clause-frozen
returns-clause-frozen g c = λ tells k stands refused.
    let store : Open g.row.D.Denot g.row.D-Piece.Denot g.row.A.Denot = record {
      settings = c.self.inside.settings;
      directory = c.self.inside.directory;
      volumes = c.self.inside.volumes.items;
      arms = c.self.inside.seats.items;
    } in
    let here =
    subst (λ (st : Open g.row.D.Denot g.row.D-Piece.Denot g.row.A.Denot). Stands g.D.Disk.files g.D.Piece.Piece.Tells g.D.Disk.fault_count g.D.Disk.fuse_count
    g.A.Arm.fault_count st k) (sym c.self.view_is) stands in
    let is =
    frozen_known g.D.Disk.files store.directory k.directory k.drained (directory_stood g.D.Disk.files g.D.Piece.Piece.Tells g.D.Disk.fault_count g.D.Disk.fuse_count
    g.A.Arm.fault_count store k here) in
    let only = c.settle.ensures.only_frozen refused in
    (sym is ∙ only.0, ap (λ (d : State g.row.D.Denot). let next : Open g.row.D.Denot g.row.D-Piece.Denot g.row.A.Denot = record store { directory = d } in next) only.1 ∙ c.self.view_is)

pub returns-clause-counts : goal.returns-clause-counts
returns-clause-counts g c =
    let store : Open g.row.D.Denot g.row.D-Piece.Denot g.row.A.Denot = record {
      settings = c.self.inside.settings;
      directory = c.self.inside.directory;
      volumes = c.self.inside.volumes.items;
      arms = c.self.inside.seats.items;
    } in
    subst (λ (st : Open g.row.D.Denot g.row.D-Piece.Denot g.row.A.Denot). NoneFalls (map g.D.Disk.fault_count (disks_of st))
    (map g.D.Disk.fault_count (disks_of (let next : Open g.row.D.Denot g.row.D-Piece.Denot g.row.A.Denot = record store { directory = c.settle.new.self } in next)))) c.self.view_is
    (c.settle.ensures.later, none_falls (map g.D.Disk.fault_count (flat_map volume_disks store.volumes)))

pub returns-clause-causes : goal.returns-clause-causes
returns-clause-causes g c = λ faults is.
    let store : Open g.row.D.Denot g.row.D-Piece.Denot g.row.A.Denot = record {
      settings = c.self.inside.settings;
      directory = c.self.inside.directory;
      volumes = c.self.inside.volumes.items;
      arms = c.self.inside.seats.items;
    } in
    let failed = c.settle.ensures.failed faults is in
    subst (λ (st : Open g.row.D.Denot g.row.D-Piece.Denot g.row.A.Denot). RoseIn 0 (map g.D.Disk.fault_count (disks_of st))
    (map g.D.Disk.fault_count (disks_of (let next : Open g.row.D.Denot g.row.D-Piece.Denot g.row.A.Denot = record store { directory = c.settle.new.self } in next))) faults) c.self.view_is
    (failed.1, failed.0)

pub returns-clause-fuses : goal.returns-clause-fuses
returns-clause-fuses g c =
    let store : Open g.row.D.Denot g.row.D-Piece.Denot g.row.A.Denot = record {
      settings = c.self.inside.settings;
      directory = c.self.inside.directory;
      volumes = c.self.inside.volumes.items;
      arms = c.self.inside.seats.items;
    } in
    directory_fuses g.D.Disk.fuse_count c.args.self.now store c.settle.new.self c.self.view_is c.settle.ensures.fuses

pub returns-clause-replicas : goal.returns-clause-replicas
returns-clause-replicas g c =
    let store : Open g.row.D.Denot g.row.D-Piece.Denot g.row.A.Denot = record {
      settings = c.self.inside.settings;
      directory = c.self.inside.directory;
      volumes = c.self.inside.volumes.items;
      arms = c.self.inside.seats.items;
    } in
    directory_leaves c.args.self.now store c.settle.new.self c.self.view_is

pub returns-clause-refused_frozen : goal.returns-clause-refused_frozen
returns-clause-refused_frozen g c = λ refused.
    let store : Open g.row.D.Denot g.row.D-Piece.Denot g.row.A.Denot = record {
      settings = c.self.inside.settings;
      directory = c.self.inside.directory;
      volumes = c.self.inside.volumes.items;
      arms = c.self.inside.seats.items;
    } in
    directory_same c.args.self.now store c.settle.new.self c.self.view_is (ap (λ (d : State g.row.D.Denot). d.disk) (c.settle.ensures.only_frozen refused).1)

pub returns-clause-volumes : goal.returns-clause-volumes
returns-clause-volumes g c = ap (λ (st : Open g.row.D.Denot g.row.D-Piece.Denot g.row.A.Denot). st.volumes) c.self.view_is

pub returns-clause-rows : goal.returns-clause-rows
returns-clause-rows g c = λ tells.
    let store : Open g.row.D.Denot g.row.D-Piece.Denot g.row.A.Denot = record {
      settings = c.self.inside.settings;
      directory = c.self.inside.directory;
      volumes = c.self.inside.volumes.items;
      arms = c.self.inside.seats.items;
    } in
    let row : HomeRow = record { pair = c.args.pair; volume = c.args.volume } in
    let same : (store.directory).settings ≡ (c.args.self.now).settings = c.self.invariant.directory ∙ ap (λ (st : Open g.row.D.Denot g.row.D-Piece.Denot g.row.A.Denot). st.settings) c.self.view_is in
    let few : (store.directory).settings.volumes ≤ 2 ^ 32 =
    let most = c.self.invariant.built.few_volumes in let are = ap (λ (s : Settings). s.volumes) c.self.invariant.directory in omega (arith, most, are) in
    let stood = c.settle.ensures.stood tells in
    let adds =
    row_adds g.D.Disk.files (λ disk n. g.met.D.Disk.may_leave_now disk n tells) store.directory c.settle.new.self stood.0 (store.directory).drained c.args.tag row few
    c.settle.ensures.settings stood.1
    c.settle.result c.settle.ensures.frozen c.settle.ensures.only_frozen (c.settle.ensures.settled tells stood.0 (store.directory).drained stood.1)
    (c.settle.ensures.no_memory tells stood.0 (store.directory).drained stood.1) (λ faults is. c.settle.ensures.pending tells stood.0 (store.directory).drained faults stood.1 is) in
    directory_adds g.D.Disk.files (c.args.self.now).settings c.args.pair c.args.volume c.args.self.now store c.settle.new.self c.self.view_is c.requires.volume
    (subst (λ (s : Settings). AddsOne g.D.Disk.files s row store.directory c.settle.new.self) same adds)

pub returns-clause-seen : goal.returns-clause-seen
returns-clause-seen g c =
    let store : Open g.row.D.Denot g.row.D-Piece.Denot g.row.A.Denot = record {
      settings = c.self.inside.settings;
      directory = c.self.inside.directory;
      volumes = c.self.inside.volumes.items;
      arms = c.self.inside.seats.items;
    } in
    on_ok_weaker c.settle.result (directory_moves c.args.self.now store c.self.view_is c.settle.new.self (SettleSeen c.args.pair c.args.volume)) c.settle.ensures.seen

pub returns-clause-refused_seen : goal.returns-clause-refused_seen
returns-clause-refused_seen g c =
    let store : Open g.row.D.Denot g.row.D-Piece.Denot g.row.A.Denot = record {
      settings = c.self.inside.settings;
      directory = c.self.inside.directory;
      volumes = c.self.inside.volumes.items;
      arms = c.self.inside.seats.items;
    } in
    IfErr-weaker c.settle.result _ _ (λ fault. directory_moves c.args.self.now store c.self.view_is c.settle.new.self
    (λ before after. SettleRefusedSeen c.args.tag c.args.pair c.args.volume before after fault)) c.settle.ensures.refused_seen

pub returns-clause-settled : goal.returns-clause-settled
returns-clause-settled g c = λ tells k stands.
    let store : Open g.row.D.Denot g.row.D-Piece.Denot g.row.A.Denot = record {
      settings = c.self.inside.settings;
      directory = c.self.inside.directory;
      volumes = c.self.inside.volumes.items;
      arms = c.self.inside.seats.items;
    } in
    let here =
    subst (λ (st : Open g.row.D.Denot g.row.D-Piece.Denot g.row.A.Denot). Stands g.D.Disk.files g.D.Piece.Piece.Tells g.D.Disk.fault_count g.D.Disk.fuse_count
    g.A.Arm.fault_count st k) (sym c.self.view_is) stands in
    let stood = directory_stood g.D.Disk.files g.D.Piece.Piece.Tells g.D.Disk.fault_count g.D.Disk.fuse_count g.A.Arm.fault_count store k here in
    let none : home_in k.directory.rows c.args.pair ≡ None =
    sym (stands_home g.D.Disk.files store.directory k.directory k.drained c.args.pair stood)
    ∙ ap (λ (st : Open g.row.D.Denot g.row.D-Piece.Denot g.row.A.Denot). home_of st.directory c.args.pair) c.self.view_is ∙ c.requires.homeless in
    let rows : k.directory.rows ++ record { pair = c.args.pair; volume = c.args.volume } ∷ [] ≡ settled k.directory.rows c.args.pair c.args.volume =
    ap (settled_by k.directory.rows c.args.pair c.args.volume) (sym none) in
    on_ok_weaker c.settle.result (λ more.
    in_directory g.D.Disk.files g.D.Piece.Piece.Tells g.D.Disk.fault_count g.D.Disk.fuse_count g.A.Arm.fault_count c.args.self.now store k c.settle.new.self
    (record k.directory { rows = settled k.directory.rows c.args.pair c.args.volume }) k.drained c.self.view_is stands c.settle.ensures.settings c.settle.ensures.later c.settle.ensures.fuses
    (λ _. subst (λ (all : List HomeRow). DirectoryStands g.D.Disk.files c.settle.new.self (record k.directory { rows = all }) k.drained) rows more))
    (c.settle.ensures.settled tells k.directory k.drained stood)
