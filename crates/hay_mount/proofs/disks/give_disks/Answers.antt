use Rattle.std.proofs.Common.{◌≡◌, ℕ, length, refl, subst, ◌∙◌, arith}
use Rattle.std.proofs.lemmas.List.{nil_from_length}
use Rattle.hay_disk.specs.Disk.{KeepsOthers}
use Rattle.hay_mount.specs.Mounts.{IsGivenDisk}
use Rattle.hay_mount.proofs.Giving.{gives-none, gives-one, gives-all}
use Rattle.hay_mount.proofs.disks.give_disks.Goals as goal

pub loop-disk-init : goal.loop-disk-init
loop-disk-init g c = record { gives = gives-none _ _ _; others = refl; counted = refl }

pub loop-disk-preserved : goal.loop-disk-preserved
loop-disk-preserved g c =
    let held = g.H.Shelf.disks c.give_disk.new.self in
    let given : (IsGivenDisk g.H.Disk.Disk.Tells g.H.Disk.Disk.files g.H.Disk.Disk.drawn g.H.Disk.Disk.fault_count g.H.Disk.Disk.fuse_count)
    (held c.len.result) c.in-Some.disk = record {
      drawn_is = c.give_disk.ensures.drawn;
      files_are = c.give_disk.ensures.files;
      fault_count = c.give_disk.ensures.faults;
      fuse_count = c.give_disk.ensures.fuses;
      back = c.give_disk.ensures.back;
    } in
    let at : c.len.result ≡ length c.pop.new.self.items = c.len.ensures ∙ c.pop.new.self.ok.0 in
    record {
      gives =
          gives-one (IsGivenDisk g.H.Disk.Disk.Tells g.H.Disk.Disk.files g.H.Disk.Disk.drawn g.H.Disk.Disk.fault_count g.H.Disk.Disk.fuse_count) c.args.disks.items
          c.loop-disk.disks.items c.pop.new.self.items c.in-Some.disk (g.H.Shelf.disks c.args.shelf.now) (g.H.Shelf.disks c.loop-disk.shelf) held
          (c.in-Some.ensures).items c.loop-disk.invariant.gives
          (let Q : ℕ → Type 0 = λ n. (IsGivenDisk g.H.Disk.Disk.Tells g.H.Disk.Disk.files g.H.Disk.Disk.drawn g.H.Disk.Disk.fault_count g.H.Disk.Disk.fuse_count) (held n)
          c.in-Some.disk in subst Q at given)
          (let Q : ℕ → Type 0 = λ n. KeepsOthers n (g.H.Shelf.disks c.loop-disk.shelf) held in subst Q at c.give_disk.ensures.others);
      others = c.give_disk.ensures.lanes ∙ c.loop-disk.invariant.others;
      counted = c.give_disk.ensures.counted ∙ c.loop-disk.invariant.counted;
    }

pub returns-clause-given : goal.returns-clause-given
returns-clause-given g c =
    gives-all (IsGivenDisk g.H.Disk.Disk.Tells g.H.Disk.Disk.files g.H.Disk.Disk.drawn g.H.Disk.Disk.fault_count g.H.Disk.Disk.fuse_count) c.args.disks.items
    c.loop-disk.disks.items (g.H.Shelf.disks c.args.shelf.now) (g.H.Shelf.disks c.loop-disk.shelf)
    (nil_from_length c.loop-disk.disks.items (let none = (c.in_default.ensures).cases in omega (arith, none.0, c.loop-disk.disks.ok.0))) c.loop-disk.invariant.gives
