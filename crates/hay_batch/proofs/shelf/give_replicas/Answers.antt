use Rattle.std.proofs.Common.{◌≡◌, ℕ, length, subst, ◌∙◌, arith}
use Rattle.hay_batch.proofs.Closing.{ReplicaGiven, gives_more, replica_stays}
use Rattle.hay_batch.proofs.shelf.give_replicas.Goals as goal

pub loop-replica-preserved : goal.loop-replica-preserved
loop-replica-preserved g c =
    let P = ReplicaGiven g.H.Disk.Disk.Tells g.H.Disk.Disk.files g.H.Disk.Disk.drawn g.H.Disk.Disk.fault_count g.H.Disk.Disk.fuse_count c.args.first in
    let held = g.H.Shelf.disks c.give_disk.new.self in
    let given : P held c.len.result c.in-Some.replica = record {
      drawn_is = c.give_disk.ensures.drawn;
      files_are = c.give_disk.ensures.files;
      fault_count = c.give_disk.ensures.faults;
      fuse_count = c.give_disk.ensures.fuses;
      back = c.give_disk.ensures.back;
    } in
    let at : c.len.result ≡ length c.pop.new.self.items = c.len.ensures ∙ c.pop.new.self.ok.0 in
    record {
      gives =
          gives_more P c.args.first 1 c.args.replicas.items c.loop-replica.replicas.items c.pop.new.self.items c.in-Some.replica (g.H.Shelf.disks c.args.shelf.now)
          (g.H.Shelf.disks c.loop-replica.shelf) held
          (replica_stays g.H.Disk.Disk.Tells g.H.Disk.Disk.files g.H.Disk.Disk.drawn g.H.Disk.Disk.fault_count g.H.Disk.Disk.fuse_count c.args.first) (c.in-Some.ensures).items
          c.loop-replica.invariant.gives
          (let Q : ℕ → Type 0 = λ n. P held n c.in-Some.replica in subst Q at given)
          (λ slot low. c.give_disk.ensures.others slot (λ same. absurd (omega (arith, low, at, same))))
          (λ slot high. c.give_disk.ensures.others slot (λ same. absurd (omega (arith, high, at, same))));
      others = c.give_disk.ensures.lanes ∙ c.loop-replica.invariant.others;
      counted = c.give_disk.ensures.counted ∙ c.loop-replica.invariant.counted;
    }

pub returns-clause-given : goal.returns-clause-given
returns-clause-given g c = λ j r at. c.loop-replica.invariant.gives.done j r (let none = (c.in_default.ensures).cases in omega (arith, none.0, c.loop-replica.replicas.ok.0)) at
