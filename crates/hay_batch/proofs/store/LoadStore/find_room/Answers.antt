use Rattle.std.proofs.Common.{◌≡◌, sym, subst, arith}
use Rattle.hay_batch.proofs.StoreLaws.{tries_more, try_is}
use Rattle.hay_batch.specs.Replicas.{At}
use Rattle.hay_batch.proofs.Lists.{at_read}
use Rattle.hay_batch.proofs.store.LoadStore.find_room.Goals as goal

pub loop-turn-preserved : goal.loop-turn-preserved
loop-turn-preserved g c =
    let there : At c.args.self.now.volumes.items c.try_at-volume.result c.index.result.now =
    subst (λ w. At c.args.self.now.volumes.items c.try_at-volume.result w) (sym c.index.ensures)
    (at_read c.args.self.now.volumes.items c.try_at-volume.result c.index.result.now (omega (arith, c.try_at-volume.ensures.below, c.requires.shape.volumes))) in
    let same : c.as_slice-replicas.result.now ≡ c.index.result.now.replicas.items = c.as_slice-replicas.ensures.value in
    tries_more c.args.self.now c.args.key c.args.need c.loop-turn.turn c.loop-turn.tries c.push.new.self _ c.in-Ok.ensures.ok c.loop-turn.invariant
    (try_is c.args.self.now c.args.key c.args.need c.loop-turn.turn c.try_at-volume.result c.machine_of.result c.in-Some.end c.index.result.now c.as_slice-replicas.result.now
    c.in-Some.replica c.try_at-volume.ensures.is there same c.in-Some.ensures.full c.machine_of.ensures)
