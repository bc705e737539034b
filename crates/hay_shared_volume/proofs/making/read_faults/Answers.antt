use Rattle.std.proofs.Common.{◌≤◌, ◌-◌, ◌^◌, ℕ, arith}
use borrow.Author.Count.{below_more}
use Rattle.hay_logical.proofs.Lists.{at_there}
use Rattle.hay_volume_lock.proofs.Counting.{count_there}
use Rattle.hay_shared_volume.specs.Making.{count_of}
use Rattle.hay_shared_volume.proofs.making.read_faults.Goals as goal

pub loop-replica-preserved : goal.loop-replica-preserved
loop-replica-preserved g c =
    let i : ℕ = c.loop-replica.replica in
    let r = at_there c.args.volume.now.replicas i (omega (arith, c.requires, c.loop-replica-test.true)) in
    let there = count_there g.D.Disk.fault_count c.args.volume.now.replicas i r.0 r.1 in
    let is = c.faults-faults.ensures r.0 r.1 in
    let small : c.faults-faults.result ≤ 2 ^ 64 - 1 = omega arith in
    below_more (λ j. count_of g.D.Disk.fault_count c.args.volume.now j ≤ 2 ^ 64 - 1) i c.loop-replica.invariant (omega (arith, there, is, small))

pub returns : goal.returns
returns g c j less = c.loop-replica.invariant j (omega (arith, less, c.loop-replica-test.false))
