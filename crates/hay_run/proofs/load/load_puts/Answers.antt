use Rattle.std.proofs.Common.{◌∙◌, ap, arith}
use Rattle.hay_disk.specs.Shelf.{HeldArm, HeldDisk}
use Rattle.hay_legal.specs.Known.{disk_count}
use Rattle.hay_run.proofs.Giving.{disks_in, none_fell}
use Rattle.hay_run.proofs.Loading.{ends_so, read_so, same_arm, sure_still}
use Rattle.hay_run.proofs.load.load_puts.Goals as goal

pub load_store-requires-clause-limits : goal.load_store-requires-clause-limits
load_store-requires-clause-limits g c =
    let built = c.requires.built in
    record {
      some_machines = (let n = built.some_machines in omega (arith, n));
      some_volumes = (let n = built.some_volumes in omega (arith, n));
      few_volumes = built.few_volumes;
      some_replicas = (let n = built.some_replicas in omega (arith, n));
      few_replicas = built.few_replicas;
    }

pub load_store-requires-clause-disks_in : goal.load_store-requires-clause-disks_in
load_store-requires-clause-disks_in g c = λ slot below. c.requires.disks_in slot

pub returns-clause-loaded : goal.returns-clause-loaded
returns-clause-loaded g c =
    let done = c.load_store.ensures in
    record {
      loaded = done.loaded;
      halts = done.halts;
      halts_over = done.halts_over;
      ended = done.ended;
      short = done.short;
      sound = λ tells opened. done.sound tells (read_so (g.S.Source.left c.args.source.now) (g.S.Source.left c.load_store.new.source) opened);
      counts = done.counts;
      other_slots = done.other_slots;
      lanes = done.lanes;
    }

pub returns-clause-status : goal.returns-clause-status
returns-clause-status g c = ends_so c.load_store.result c.load_store.ensures.status

pub returns-clause-disks_back : goal.returns-clause-disks_back
returns-clause-disks_back g c =
    disks_in (disk_count c.args.settings) (g.H.Shelf.disks c.args.shelf.now) (g.H.Shelf.disks c.load_store.new.shelf)
    c.requires.disks_in c.load_store.ensures.disks_back c.load_store.ensures.other_slots

pub returns-clause-faults : goal.returns-clause-faults
returns-clause-faults g c =
    none_fell (λ (d : HeldDisk). d.fault_count) (disk_count c.args.settings) (g.H.Shelf.disks c.args.shelf.now) (g.H.Shelf.disks c.load_store.new.shelf)
    (λ slot below. (c.load_store.ensures.counts slot below).faults_rise) c.load_store.ensures.other_slots

pub returns-clause-arms_back : goal.returns-clause-arms_back
returns-clause-arms_back g c = λ lane.
    ap (λ (a : HeldArm). a.is_out) (same_arm (g.H.Shelf.arms c.args.shelf.now) (g.H.Shelf.arms c.load_store.new.shelf) c.load_store.ensures.lanes lane) ∙ c.requires.arms_in lane

pub returns-clause-arm_faults : goal.returns-clause-arm_faults
returns-clause-arm_faults g c = λ lane.
    let same = ap (λ (a : HeldArm). a.fault_count) (same_arm (g.H.Shelf.arms c.args.shelf.now) (g.H.Shelf.arms c.load_store.new.shelf) c.load_store.ensures.lanes lane) in
    omega (arith, same)

pub returns-clause-sure_arms : goal.returns-clause-sure_arms
returns-clause-sure_arms g c = λ lane.
    sure_still (g.H.Shelf.arms c.args.shelf.now lane) (g.H.Shelf.arms c.load_store.new.shelf lane)
    (same_arm (g.H.Shelf.arms c.args.shelf.now) (g.H.Shelf.arms c.load_store.new.shelf) c.load_store.ensures.lanes lane)

pub returns-clause-other_lanes : goal.returns-clause-other_lanes
returns-clause-other_lanes g c = λ lane above. same_arm (g.H.Shelf.arms c.args.shelf.now) (g.H.Shelf.arms c.load_store.new.shelf) c.load_store.ensures.lanes lane
