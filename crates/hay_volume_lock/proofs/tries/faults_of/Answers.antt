use Rattle.std.proofs.Common.{◌<◌, ◌+◌, [], ◌∷◌, length, ap, ◌∙◌, arith, length-append}
use Rattle.std.proofs.lemmas.List.{length-map}
use Rattle.hay_physical.specs.OpenCopies.{Copy}
use Rattle.hay_volume_lock.specs.Acts.{counts}
use Rattle.hay_volume_lock.proofs.Counting.{take_whole, taken_next}
use Rattle.hay_volume_lock.proofs.tries.faults_of.Goals as goal

pub loop-replica-preserved : goal.loop-replica-preserved
loop-replica-preserved g c = record {
  taken = taken_next g.D.Disk.fault_count c.args.logical.now.replicas c.loop-replica.replica c.faults.result c.loop-replica.faults.items c.push.new.self.items
      (let less : c.loop-replica.replica < length c.args.logical.now.replicas = omega (arith, c.loop-replica-test.true, c.requires.all) in less)
      c.faults.ensures c.loop-replica.invariant.taken c.push.ensures.items;
  count = ap length c.push.ensures.items ∙ length-append c.loop-replica.faults.items (c.faults.result ∷ []) ∙ ap (λ n. n + 1) c.loop-replica.invariant.count;
}

pub returns : goal.returns
returns g c =
    let faults = g.D.Disk.fault_count in
    let replicas = c.args.logical.now.replicas in
    c.loop-replica.invariant.taken
    ∙ take_whole (counts faults replicas) c.loop-replica.replica (omega (arith, length-map replicas (λ (r : Copy g.row.D.Denot). faults r.disk), c.requires.all, c.loop-replica-test.false))
