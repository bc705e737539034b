use Rattle.std.proofs.Common.{arith}
use Rattle.std.specs.Prelude.{reverse}
use Rattle.hay_batch.proofs.FillingLaws.{filling_more}
use Rattle.hay_batch.proofs.filling.fill_volume.Goals as goal

pub loop-replica-preserved : goal.loop-replica-preserved
loop-replica-preserved g c = record {
  filling =
      filling_more c.loop-replica._replica (reverse c.args.disks.now.items) c.loop-replica.disks.items c.pop.new.self.items (reverse c.args.files.now.items)
      c.loop-replica.files.items c.pop-in-loop-replica.new.self.items c.loop-replica.volume
      (record { replicas = c.push_reserved.new.self }) (record { disk = c.in-Some-Some.disk; volume = c.in-Some-Some.file }) c.loop-replica.invariant.filling
      (c.in-Some-Some.ensures).items (c.in-Some-Some.ensures').items c.push_reserved.ensures.items;
  room = omega (arith, c.loop-replica.invariant.room, c.push_reserved.ensures.capacity);
}
